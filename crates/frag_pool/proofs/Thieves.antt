-- A helper's ways to the benches: one of them got a job, or none did, and the benches of a new pool.
use Rattle.std.proofs.Common.{◌≡◌, ◌<◌, ℕ, List, [], ◌∷◌, ◌++◌, length, map, get_or, set, sym, ap, ◌∙◌, subst, arith}
use Rattle.std.proofs.lemmas.List.{map-set, length-map, length-set, get_or-map, get_or-set_same, get_or-set_other}
use Rattle.std.proofs.Math.Seq.{map-set_same}
use Rattle.frag_pool.specs.declared.job.Job.{Job}
use Rattle.frag_pool.specs.declared.view.Won.{Won}
use Rattle.frag_pool.specs.declared.bench.Bench.{Bench}
use Rattle.frag_pool.specs.declared.helper.Thief.{Thief}
use Rattle.frag_pool.specs.declared.helper.Helper.{Helper}
use Rattle.frag_pool.specs.Deque.{won}
use Rattle.frag_pool.specs.Bench.{pushed, got, is_empty, stolen_from, SameBench, IsNewBench, IsNewHelper, IsGot, OneMore}

-- thief i got a job
pub one_stolen : (thieves : List Thief) (i : ℕ) (t t' : Thief) (job : Job) → i < length thieves → t ≡ get_or thieves i t
    → IsGot job (stolen_from t) (stolen_from t')
    → OneMore job (map stolen_from thieves) (map stolen_from (set thieves i t'))
one_stolen thieves i t t' job below read is_got =
    let lists : List (List Won) = map stolen_from thieves in
    let long : i < length lists = omega (arith, length-map thieves stolen_from, below) in
    let was : get_or lists i [] ≡ stolen_from t = get_or-map stolen_from thieves i t [] below ∙ ap stolen_from (sym read) in
    subst (λ (l : List (List Won)). OneMore job lists l) (sym (map-set stolen_from thieves i t')) (record {
      bench = i;
      inside = long;
      as_many = length-set lists i (stolen_from t');
      there = (
        is_got.0,
        get_or-set_same lists i (stolen_from t') [] long
            ∙ is_got.1 ∙ ap (λ (l : List Won). l ++ won is_got.0 job ∷ []) (sym was),
      );
      others = λ j other. get_or-set_other lists i j (stolen_from t') [] other;
    })

-- thief i got none
pub none_stolen : (thieves : List Thief) (i : ℕ) (t t' : Thief) → t ≡ get_or thieves i t
    → stolen_from t' ≡ stolen_from t → map stolen_from (set thieves i t') ≡ map stolen_from thieves
none_stolen thieves i t t' read same = map-set_same stolen_from thieves i t' t (same ∙ ap stolen_from read)

-- a bench stays new when a helper gets a way to it
pub still_new : (n : ℕ) (b b' : Bench) → SameBench b b' → is_empty b' ≡ is_empty b → pushed b' ≡ pushed b
    → got b' ≡ got b → IsNewBench n b → IsNewBench n b'
still_new n b b' same clean same_pushed same_got is_new = record {
  empty = clean ∙ is_new.empty;
  pushed_none = same_pushed ∙ is_new.pushed_none;
  got_none = same_got ∙ is_new.got_none;
  sure_is = same.same_sure ∙ is_new.sure_is;
  helpers_are = same.same_helpers ∙ is_new.helpers_are;
}

pub new_of : {n m : ℕ} {h : Helper} → n ≡ m → IsNewHelper n h → IsNewHelper m h
new_of {h = h} same is_new = subst (λ (k : ℕ). IsNewHelper k h) same is_new
