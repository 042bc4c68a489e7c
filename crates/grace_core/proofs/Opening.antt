-- For `GraceState::new`: the facts hold before anything happened.
use Rattle.std.proofs.Common.{ℕ, zero, suc, ◌≡◌, ◌<◌, ◌≤◌, ◌^◌, ◌∙◌, nat_eq, List, [], ◌∷◌, length, get_or, replicate, refl, sym, subst, arith, inl, inr, Option, None}
use Rattle.std.proofs.lemmas.Bool.{ltb-true, cond-false}
use Rattle.std.proofs.lemmas.Bool.Decides.{eqb_tells}
use Rattle.std.proofs.lemmas.List.{length-replicate, get_or-replicate}
use Rattle.grace_core.specs.declared.clearing.Clearing.{Clearing}
use Rattle.grace_core.specs.Core.{GraceTreeView, times, no_clearing}
use Rattle.grace_core.specs.Steps.{new_clearing}
use Rattle.grace_core.specs.States.{opening_writer_state, grace_opening}
use Rattle.grace_core.specs.Facts.{WriterFacts, GraceFacts}
use Rattle.grace_core.proofs.Clearings.{least_number}
use Rattle.grace_core.proofs.Moves.{free_fact}
use Rattle.grace_core.proofs.Keeping.{facts_from}

-- what is so of the one element of a list and of the default is so everywhere
each_replicate : {A : Type 0} (P : A → Type 0) (n : ℕ) (x d : A) → P x → P d → (k : ℕ) → P (get_or (replicate n x) k d)
each_replicate P zero x d one other k = other
each_replicate P (suc n) x d one other zero = one
each_replicate P (suc n) x d one other (suc k) = each_replicate P n x d one other k

-- tree 0 has row 0 alone
only_first : (row : ℕ) → 0 < times row (0 ∷ []) → 0 ≡ row
only_first row some = elim (eqb_tells 0 row) [
  | inl here ↦ here.1
  | inr apart ↦ let none = cond-false {A = ℕ} (nat_eq 0 row) 1 0 apart.0 in absurd (omega (arith, some, none))
]

-- what the writer knows at first
opening_writer_facts : (readers rows : ℕ) → 0 < rows → WriterFacts (opening_writer_state readers rows)
opening_writer_facts readers rows some =
    let before = each_replicate (λ (c : Clearing). c.cleared ≤ c.tree) readers new_clearing no_clearing (omega arith) (omega arith) in
    let long : length {A = List ℕ} (replicate rows (0 ∷ [])) ≡ rows = length-replicate {A = List ℕ} rows (0 ∷ []) in
    record {
      present = record {
        exist = λ row here. let first = only_first row (ltb-true 0 (times row (0 ∷ [])) here) in omega (arith, first, long, some);
        same = λ row here. refl;
      };
      wide = λ row within.
          subst (λ (words : List ℕ). length words ≡ 1) (sym (get_or-replicate rows row (0 ∷ []) [] (omega (arith, long, within)))) refl;
      sized = length-replicate rows 0 ∙ sym long;
      since = each_replicate (λ n. n ≤ 0) rows 0 0 (omega arith) (omega arith);
      before = before;
      passed = omega arith;
      reached = least_number 0 (replicate readers new_clearing);
      free = free_fact (opening_writer_state readers rows) before
          (each_replicate (λ (c : Clearing). c.tree ≤ 0) readers new_clearing no_clearing (omega arith) (omega arith));
    }

pub opening_facts : (readers rows : ℕ) → 0 < rows → GraceFacts (grace_opening readers rows)
opening_facts readers rows some = facts_from (grace_opening readers rows)
    (each_replicate (λ pin. pin < 2 ^ 64) readers 0 0 (omega arith) (omega arith))
    (opening_writer_facts readers rows some)
    (λ reader tree is.
    let none = each_replicate (λ (s : Option GraceTreeView). s ≡ None) readers None None refl refl reader in
    absurd (let e = sym none ∙ is in cc))
