-- For `GraceTree::of` and `GraceWriter::publish`: marks of the rows of a list, and how often a row is listed.
use Rattle.std.proofs.Common.{ℕ, ◌≡◌, ◌<◌, ◌+◌, ◌∙◌, Bool, true, false, cond, nat_eq, nat_lt, List, length, get_or, set, take, sym, ap, subst, arith, inl, inr}
use Rattle.std.proofs.lemmas.Bool.{cond-true, cond-false, lt-ltb}
use Rattle.std.proofs.lemmas.Bool.Decides.{eqb_tells}
use Rattle.std.proofs.lemmas.List.{map_more, get_or-set_same, get_or-set_other}
use Rattle.std.proofs.lemmas.List.Sums.{sum_by_push}
use Rattle.mm_types.specs.declared.slot.Row.{Row}
use Rattle.grace_core.specs.Core.{times, numbers_of}
use Rattle.grace_core.specs.Internal.Trees.{AreMarks}

-- how often a row is listed with one more at the end
pub times_more : (row : ℕ) (rows : List Row) (i : ℕ) (d : Row) → i < length rows
    → times row (numbers_of (take (i + 1) rows)) ≡ times row (numbers_of (take i rows)) + cond (nat_eq (get_or rows i d).0 row) 1 0
times_more row rows i d within =
    ap (times row) (map_more (λ (r : Row). r.0) rows i d within)
    ∙ sum_by_push (λ other. cond (nat_eq other row) 1 0) (numbers_of (take i rows)) (get_or rows i d).0

-- one more row is marked
pub marks_more : (marks : List Bool) (rows : List Row) (i : ℕ) (d : Row) → i < length rows → (get_or rows i d).0 < length marks
    → AreMarks marks (take i rows) → AreMarks (set marks (get_or rows i d).0 true) (take (i + 1) rows)
marks_more marks rows i d within there are row =
    let at = (get_or rows i d).0 in
    let more = times_more row rows i d within in
    elim (eqb_tells at row) [
      | inl here ↦
          let one = cond-true {A = ℕ} (nat_eq at row) 1 0 here.0 in
          subst (λ k. get_or (set marks at true) k false ≡ true) here.1 (get_or-set_same marks at true false there)
          ∙ sym (lt-ltb 0 (times row (numbers_of (take (i + 1) rows))) (omega (arith, more, one)))
      | inr apart ↦
          let none = cond-false {A = ℕ} (nat_eq at row) 1 0 apart.0 in
          let same : times row (numbers_of (take (i + 1) rows)) ≡ times row (numbers_of (take i rows)) = omega (arith, more, none) in
          get_or-set_other marks at row true false (λ e. apart.1 (sym e)) ∙ are row ∙ ap (nat_lt 0) (sym same)
    ]
