-- For `has_child`: a line forks a child where it is among the children.
use Rattle.std.proofs.Common.{ℕ, ◌≡◌, ◌∙◌, refl, sym, ap, Bool, false, nat_eq, List, [], ◌∷◌, ◌||◌, Option, Some, None, Contains}
use Rattle.std.specs.Prelude.{◌↔◌, IsTrue}
use Rattle.std.specs.List.{list_any, cons_option}
use Rattle.std.specs.Option.{option_map_or}
use Rattle.std.proofs.lemmas.Bool.{eq-eqb, eqb-true}
use Rattle.std.proofs.lemmas.List.Folds.{list_any_at}
use Rattle.std.proofs.lemmas.Map.Views.{Contains-from_any}
use Rattle.trace_reader.specs.declared.trace.TraceLine.{TraceLine}
use Rattle.trace_reader.specs.Values.{child_of, children_of}

any_child : (lines : List TraceLine) (child : ℕ) → list_any (λ line. option_map_or (λ own. nat_eq own child) (child_of line.op) false) lines
    ≡ list_any (λ own. nat_eq own child) (children_of lines)
any_child [] child = refl
any_child (line ∷ lines) child = by_child (child_of line.op) (any_child lines child)
  where
    by_child : (own : Option ℕ) → list_any (λ line. option_map_or (λ own. nat_eq own child) (child_of line.op) false) lines
        ≡ list_any (λ own. nat_eq own child) (children_of lines)
        → (option_map_or (λ own. nat_eq own child) own false
        || list_any (λ line. option_map_or (λ own. nat_eq own child) (child_of line.op) false) lines)
        ≡ list_any (λ own. nat_eq own child) (cons_option own (children_of lines))
    by_child None rest = rest
    by_child (Some own) rest = ap (λ (b : Bool). nat_eq own child || b) rest

pub is_forked : (lines all : List TraceLine) (child : ℕ) (has : Bool) → lines ≡ all
    → has ≡ list_any (λ line. option_map_or (λ own. nat_eq own child) (child_of line.op) false) lines
    → IsTrue has ↔ Contains (children_of all) child
is_forked lines all child has same is =
    let among : has ≡ list_any (λ own. nat_eq own child) (children_of all) =
    is ∙ any_child lines child ∙ ap (λ (l : List TraceLine). list_any (λ own. nat_eq own child) (children_of l)) same in (
      λ yes. Contains-from_any {eq = λ (q own : ℕ). nat_eq own q} (λ x y same. sym (eqb-true y x same)) child (children_of all) (sym among ∙ yes),
      λ found. among ∙ list_any_at (λ own. nat_eq own child) (children_of all) found.0 child found.1 (eq-eqb _ child found.2),
    )
