use Rattle.std.proofs.Common.{◌≡◌, ◌<◌, ◌+◌, ◌*◌, [], ◌∷◌, refl, arith, lit<, lit≤}
use Rattle.std.proofs.lemmas.List.Elements.{All-nil}
use Rattle.sector_model.specs.Array.{laid, unit}
use Rattle.sector_model.specs.Laws.Examples.{deny, done, filled, lost, mark, put, read, shut, small, zeros}
use Rattle.sector_model.proofs.SmallHistories.{all_of_one, apart_above, at_first, beside, can_end, can_put, can_read, meet, other_name, write}
use Rattle.sector_model.proofs.examples.legal_histories.Goals as goal

pub returns-clause-a_read_sees_what_was_put : goal.returns-clause-a_read_sees_what_was_put
returns-clause-a_read_sees_what_was_put c = (
  (
    can_put [] 0 2 1 9 refl refl (lit≤ tt) (All-nil _) (All-nil _),
    (
      can_end (put 0 2 1 9 ∷ []) 0 2 1 9 1 (0, lit< tt, refl) refl,
      (
        can_read (put 0 2 1 9 ∷ done 0 2 1 ∷ []) 2 1 9 refl (lit≤ tt) (All-nil _),
        (can_read (put 0 2 1 9 ∷ done 0 2 1 ∷ read 1 2 1 9 ∷ []) 3 1 0 refl (lit≤ tt) (All-nil _), tt),
      ),
    ),
  ),
  (
    tt,
    (
      tt,
      (
        at_first (λ k. laid small 2 (filled 1 9) zeros (2 + k) ≡ unit k (filled 1 9)) refl,
        (at_first (λ k. laid small 2 (filled 1 9) zeros (3 + k) ≡ unit k (filled 1 0)) refl, tt),
      ),
    ),
  ),
)

pub returns-clause-a_read_beside_an_open_write : goal.returns-clause-a_read_beside_an_open_write
returns-clause-a_read_beside_an_open_write c = (
  (
    can_put [] 0 2 1 9 refl refl (lit≤ tt) (All-nil _) (All-nil _),
    (
      can_read (put 0 2 1 9 ∷ []) 3 1 0 refl (lit≤ tt) (beside 0 2 1 9 3 1 (apart_above 3 1 2 1 (lit≤ tt))),
      (can_end (put 0 2 1 9 ∷ read 1 3 1 0 ∷ []) 0 2 1 9 1 (0, lit< tt, refl) refl, tt),
    ),
  ),
  (tt, (at_first (λ k. laid small 2 (filled 1 9) zeros (3 + k) ≡ unit k (filled 1 0)) refl, (tt, tt))),
)

pub returns-clause-a_read_sees_what_a_failed_write_left : goal.returns-clause-a_read_sees_what_a_failed_write_left
returns-clause-a_read_sees_what_a_failed_write_left c = (
  (
    can_put [] 0 2 1 9 refl refl (lit≤ tt) (All-nil _) (All-nil _),
    (
      record {
        write = write 0 2 1 9;
        is_open = record { put = (0, lit< tt, refl); name = (refl, refl); place = refl };
        all = refl;
        some = lit< tt;
        rising = λ i j d less within. absurd (omega arith);
        fragments = all_of_one (λ f. 512 * f.0 < 1) (0, mark) (lit< tt);
      },
      (can_read (put 0 2 1 9 ∷ lost 0 2 1 5 ∷ []) 2 1 5 refl (lit≤ tt) (All-nil _), tt),
    ),
  ),
  (
    tt,
    (
      λ w is named. at_first _ (λ none. absurd (none (0, (0, mark), lit< tt, refl, refl))),
      (at_first (λ k. laid small 2 (filled 1 5) (laid small 2 (filled 1 9) zeros) (2 + k) ≡ unit k (filled 1 5)) refl, tt),
    ),
  ),
)

pub returns-clause-writes_end_in_any_order : goal.returns-clause-writes_end_in_any_order
returns-clause-writes_end_in_any_order c = (
  (
    can_put [] 0 2 1 9 refl refl (lit≤ tt) (All-nil _) (All-nil _),
    (
      can_put (put 0 2 1 9 ∷ []) 1 3 1 8 refl refl (lit≤ tt) (beside 0 2 1 9 3 1 (apart_above 3 1 2 1 (lit≤ tt)))
          (other_name 0 2 1 9 1 (λ same. absurd (omega arith))),
      (
        can_end (put 0 2 1 9 ∷ put 1 3 1 8 ∷ []) 1 3 1 8 1 (1, lit< tt, refl) refl,
        (can_end (put 0 2 1 9 ∷ put 1 3 1 8 ∷ done 1 3 1 ∷ []) 0 2 1 9 1 (0, lit< tt, refl) refl, tt),
      ),
    ),
  ),
  (tt, (tt, (tt, (tt, tt)))),
)

pub returns-clause-a_number_is_used_again : goal.returns-clause-a_number_is_used_again
returns-clause-a_number_is_used_again c = (
  (
    can_put [] 0 2 1 9 refl refl (lit≤ tt) (All-nil _) (All-nil _),
    (
      can_end (put 0 2 1 9 ∷ []) 0 2 1 9 1 (0, lit< tt, refl) refl,
      (
        can_put (put 0 2 1 9 ∷ done 0 2 1 ∷ []) 0 2 1 8 refl refl (lit≤ tt) (All-nil _) (All-nil _),
        (can_end (put 0 2 1 9 ∷ done 0 2 1 ∷ put 0 2 1 8 ∷ []) 0 2 1 8 1 (0, lit< tt, refl) refl, tt),
      ),
    ),
  ),
  (tt, (tt, (tt, (tt, tt)))),
)

pub returns-clause-a_denial_freezes : goal.returns-clause-a_denial_freezes
returns-clause-a_denial_freezes c = (
  (
    (refl, lit≤ tt, meet 5 2 6 2 6 (lit≤ tt) (lit< tt) (lit≤ tt) (lit< tt)),
    (
      (refl, lit≤ tt),
      (can_read (deny 0 5 2 ∷ shut 1 0 1 ∷ []) 6 1 0 refl (lit≤ tt) (All-nil _), tt),
    ),
  ),
  (tt, (tt, (at_first (λ k. zeros (6 + k) ≡ unit k (filled 1 0)) refl, tt))),
)

pub returns-clause-an_open_write_ends_after_a_denial : goal.returns-clause-an_open_write_ends_after_a_denial
returns-clause-an_open_write_ends_after_a_denial c = (
  (
    can_put [] 0 2 1 9 refl refl (lit≤ tt) (All-nil _) (All-nil _),
    (
      (refl, lit≤ tt, meet 7 1 6 2 7 (lit≤ tt) (lit< tt) (lit≤ tt) (lit< tt)),
      (can_end (put 0 2 1 9 ∷ deny 1 7 1 ∷ []) 0 2 1 9 1 (0, lit< tt, refl) refl, tt),
    ),
  ),
  (tt, (tt, (tt, tt))),
)

pub returns-clause-refusals_and_flushes : goal.returns-clause-refusals_and_flushes
returns-clause-refusals_and_flushes c = (
  (λ fits. absurd (omega arith), (tt, (tt, (tt, tt)))),
  (tt, (tt, (tt, (tt, tt)))),
)
