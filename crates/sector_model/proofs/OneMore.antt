-- A history with one more entry.
--
-- What a history says is a fold over its entries, so one more entry is one more step; and a legal history stays
-- legal if the entry meets its conditions after it.
use Rattle.std.proofs.Common.{◌≡◌, Bool, false, List, [], ◌∷◌, ◌++◌, refl, sym, ap, subst, ◌∙◌, append_assoc, append-nil}
use Rattle.sector_model.specs.Array.{Array, Volume}
use Rattle.sector_model.specs.History.{after, array_with, flushed_from, flushed_with, frozen_from, frozen_with, is_flushed, is_frozen, open_from, open_with, open_writes, Write}
use Rattle.sector_model.specs.Legal.{EachAfter, IsOrdered, IsTold, Legal, MeetsContents, MeetsOrder}
use Rattle.sector_model.specs.Marks.{marks_in, marks_of}
use Rattle.sector_model.specs.declared.entry.Entry.{Entry}

open_from-push : (ws : List Write) (h : List Entry) (e : Entry)
    → open_from ws (h ++ e ∷ []) ≡ open_with e.caller e.number e.event (open_from ws h)
open_from-push ws [] e = refl
open_from-push ws (x ∷ h) e = open_from-push (open_with x.caller x.number x.event ws) h e

pub open_writes-push : (h : List Entry) (e : Entry)
    → open_writes (h ++ e ∷ []) ≡ open_with e.caller e.number e.event (open_writes h)
open_writes-push h e = open_from-push [] h e

pub after-push : (v : Volume) (a : Array) (h : List Entry) (e : Entry)
    → after v a (h ++ e ∷ []) ≡ array_with v e.event (after v a h)
after-push v a [] e = refl
after-push v a (x ∷ h) e = after-push v (array_with v x.event a) h e

frozen_from-push : (b : Bool) (h : List Entry) (e : Entry)
    → frozen_from b (h ++ e ∷ []) ≡ frozen_with e.event (frozen_from b h)
frozen_from-push b [] e = refl
frozen_from-push b (x ∷ h) e = frozen_from-push (frozen_with x.event b) h e

pub is_frozen-push : (h : List Entry) (e : Entry) → is_frozen (h ++ e ∷ []) ≡ frozen_with e.event (is_frozen h)
is_frozen-push h e = frozen_from-push false h e

flushed_from-push : (b : Bool) (h : List Entry) (e : Entry)
    → flushed_from b (h ++ e ∷ []) ≡ flushed_with e.event (flushed_from b h)
flushed_from-push b [] e = refl
flushed_from-push b (x ∷ h) e = flushed_from-push (flushed_with x.event b) h e

pub is_flushed-push : (h : List Entry) (e : Entry) → is_flushed (h ++ e ∷ []) ≡ flushed_with e.event (is_flushed h)
is_flushed-push h e = flushed_from-push false h e

pub marks_in-push : (h : List Entry) (e : Entry) → marks_in (h ++ e ∷ []) ≡ marks_in h ++ marks_of e.event
marks_in-push [] e = append-nil (marks_of e.event)
marks_in-push (x ∷ h) e = ap (λ ms. marks_of x.event ++ ms) (marks_in-push h e)
    ∙ sym (append_assoc (marks_of x.event) (marks_in h) (marks_of e.event))

each-push : (P : List Entry → Entry → Type 0) (past h : List Entry) (e : Entry) → EachAfter P past h
    → P (past ++ h) e → EachAfter P past (h ++ e ∷ [])
each-push P past [] e each here = (subst (λ l. P l e) (append-nil past) here, tt)
each-push P past (x ∷ h) e each here =
    (each.0, each-push P (past ++ x ∷ []) h e each.1 (subst (λ l. P l e) (sym (append_assoc past (x ∷ []) h)) here))

pub IsOrdered-push : (v : Volume) (h : List Entry) (e : Entry) → IsOrdered v h
    → MeetsOrder v h e.caller e.number e.event → IsOrdered v (h ++ e ∷ [])
IsOrdered-push v h e each here = each-push (λ past x. MeetsOrder v past x.caller x.number x.event) [] h e each here

pub IsTold-push : (v : Volume) (a : Array) (h : List Entry) (e : Entry) → IsTold v a h
    → MeetsContents v a h e.caller e.number e.event → IsTold v a (h ++ e ∷ [])
IsTold-push v a h e each here = each-push (λ past x. MeetsContents v a past x.caller x.number x.event) [] h e each here

pub Legal-push : (v : Volume) (a : Array) (h : List Entry) (e : Entry) → Legal v a h
    → MeetsOrder v h e.caller e.number e.event → MeetsContents v a h e.caller e.number e.event
    → Legal v a (h ++ e ∷ [])
Legal-push v a h e legal order told = (IsOrdered-push v h e legal.0 order, IsTold-push v a h e legal.1 told)
