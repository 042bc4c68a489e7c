-- For `area_above`: its goals.
use Rattle.std.proofs.Common.{◌≡◌, ℕ, ◌+◌, ◌&&◌, Bool, nat_eq, nat_lt, List, [], ◌∷◌, find, ◌∙◌, refl, arith, rules, tests}
use Rattle.std.proofs.lemmas.Bool.Decides.{nat_tests}
use Rattle.std.proofs.lemmas.Iterator.{YieldsList-from_slice}
use Rattle.std.proofs.lemmas.Iterator.Search.{find_from_yields_List}
use Rattle.mm_types.specs.declared.area.Record.{Record}
use Rattle.area_rules.specs.Growing.{is_above}
use Rattle.area_model.proofs.growing.area_above.Goals as goal

-- an area that begins right above a page begins above it
above_tests : (page lo : ℕ) (grows : Bool) → (nat_lt page lo && (grows && nat_eq lo (page + 1))) ≡ (grows && nat_eq lo (page + 1))
above_tests page lo grows = grind (arith, nat_tests)

-- so the search may test this first
same_search : (page : ℕ) (areas : List Record) → find (λ (area : Record). nat_lt page area.span.lo && is_above page area) areas ≡ find (is_above page) areas
same_search page [] = refl
same_search page (area ∷ areas) = rw (above_tests page area.span.lo area.attr.grows, same_search page areas)

pub returns-clause-value : goal.returns-clause-value
returns-clause-value c = c.copied.ensures ∙ (find_from_yields_List (λ (area : Record). nat_lt c.args.page area.span.lo && is_above c.args.page area) _ _ c.find.result
    c.find.ensures.ran (YieldsList-from_slice c.args.areas.now c.iter.ensures.rest) (λ x b q k. search (rules, tests)) ∙ same_search c.args.page c.args.areas.now)
