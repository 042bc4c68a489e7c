-- For `rows_by_weight` and the table of words over this state: what a reader's steps tell it: a row that is right for the list after what it has seen.
use Rattle.std.proofs.Common.{ℕ, zero, suc, ◌≡◌, ◌≢◌, ◌<◌, ◌≤◌, ◌^◌, ◌∙◌, refl, sym, ap, subst, true, nat_eq, List, [], ◌∷◌, length, get_or, All, Option, inl, inr, arith}
use Rattle.std.specs.List.{list_all, Contains}
use Rattle.std.specs.Option.{IfSome}
use Rattle.std.proofs.lemmas.Bool.{eqb-true, and_parts}
use Rattle.std.proofs.lemmas.List.{get_or-map, length-map}
use Rattle.mm_types.specs.declared.area.Record.{Record}
use Rattle.mm_types.specs.declared.call.Entry.{Entry}
use Rattle.mm_types.specs.declared.config.Config.{Config}
use Rattle.mm_types.specs.Config.{IsValidConfig}
use Rattle.mm_types.specs.Packed.{packed, unpacked}
use Rattle.mm_types.specs.Records.{IsValid}
use Rattle.mm_types.proofs.PackedWords.{unpacked-packed, unpacked-detached}
use Rattle.area_rules.specs.Steps.{after, IsReady}
use Rattle.area_rules.proofs.Journals.{after_ready}
use Rattle.lock_core.specs.Rows.{is_detached, IsRowOf}
use Rattle.lock_core.specs.Facts.{list_after}
use Rattle.lock_core.proofs.Weighing.{no_area, same_element}

-- a row of four words that is detached is the row of no area
detached_is : (row : List ℕ) → length row ≡ 4 → is_detached row ≡ true → row ≡ 0 ∷ 0 ∷ 0 ∷ 0 ∷ []
detached_is (a ∷ b ∷ c ∷ d ∷ []) four zeros =
    let one = and_parts (nat_eq a 0) (list_all (λ word. nat_eq word 0) (b ∷ c ∷ d ∷ [])) zeros in
    let two = and_parts (nat_eq b 0) (list_all (λ word. nat_eq word 0) (c ∷ d ∷ [])) one.1 in
    let three = and_parts (nat_eq c 0) (list_all (λ word. nat_eq word 0) (d ∷ [])) two.1 in
    let four_words = and_parts (nat_eq d 0) true three.1 in
    let first = eqb-true a 0 one.0 in
    let second = eqb-true b 0 two.0 in
    let third = eqb-true c 0 three.0 in
    let fourth = eqb-true d 0 four_words.0 in
    cc
detached_is [] four zeros = absurd (omega arith)
detached_is (a ∷ []) four zeros = absurd (omega arith)
detached_is (a ∷ b ∷ []) four zeros = absurd (omega arith)
detached_is (a ∷ b ∷ c ∷ []) four zeros = absurd (omega arith)
detached_is (a ∷ b ∷ c ∷ d ∷ e ∷ row) four zeros = absurd (omega arith)

-- what is unpacked of a row that is right for a list is none, or an area of it
pub row_area : (areas : List Record) (row : List ℕ) → All IsValid areas → All (λ area. area.object < 2 ^ 32) areas → length row ≡ 4
    → IsRowOf areas row → IfSome (unpacked row) (Contains areas)
row_area areas row valid objects four (inl detached) =
    subst (λ (o : Option Record). IfSome o (Contains areas)) (sym (ap unpacked (detached_is row four detached) ∙ unpacked-detached)) tt
row_area areas row valid objects four (inr (place, within, is)) =
    let inside : place < length areas = omega (arith, within, length-map areas packed) in
    let area = get_or areas place no_area in
    let words = sym is ∙ get_or-map packed areas place no_area row inside in
    let found = ap unpacked words ∙ unpacked-packed area (valid place no_area inside) (objects place no_area inside) in
    subst (λ (o : Option Record). IfSome o (Contains areas)) (sym found) (place, inside, same_element areas place area no_area inside)

-- the same after a journal: unpacked, a right row is none or an area of the list after it
pub row_after : (config : Config) (journal : List Entry) (row : List ℕ) → IsValidConfig config → length journal ≤ 3000000000 → length row ≡ 4
    → IsRowOf (list_after config journal) row → IfSome (unpacked row) (Contains (list_after config journal))
row_after config journal row valid few four right =
    let ready : IsReady config (after config journal) = after_ready config journal valid few in
    row_area (list_after config journal) row ready.sound.canonical.valid
    (λ k d within. omega (arith, ready.counted k d within, ready.room)) four right
