-- For `Records`: the records that are written, and those after them.
use Rattle.std.proofs.Common.{ℕ, suc, ◌≡◌, ◌<◌, ◌≤◌, ◌-◌, ◌∙◌, List, [], ◌∷◌, ◌++◌, length, set, replicate, sym, ap, append_assoc, arith}
use Rattle.std.proofs.lemmas.List.{length-append, length-replicate, length-set, length_push, set-append_left}
use Rattle.mm_types.specs.declared.area.Record.{Record}
use Rattle.area_tree.specs.AreaTrees.{no_area}
use Rattle.area_tree.specs.Internal.Records.{padded_records}

-- each slot has a record
pub length-padded : (slots : ℕ) (written : List Record) → length written ≤ slots → length (padded_records slots written) ≡ slots
length-padded slots written few =
    let rest : ℕ = slots - length written in
    omega (arith, few, length-append written (replicate rest no_area), length-replicate rest no_area)

-- one more record of no area shows the same
pub padded_push : (slots : ℕ) (written : List Record) → length written < slots → padded_records slots (written ++ no_area ∷ []) ≡ padded_records slots written
padded_push slots written more =
    let rest : ℕ = slots - length (written ++ no_area ∷ []) in
    let one : suc rest ≡ slots - length written = omega (arith, more, length_push written no_area) in
    append_assoc written (no_area ∷ []) (replicate rest no_area) ∙ ap (λ n. written ++ replicate n no_area) one

-- a written record is another
pub padded_set : (slots slot : ℕ) (written : List Record) (area : Record) → slot < length written
    → padded_records slots (set written slot area) ≡ set (padded_records slots written) slot area
padded_set slots slot written area within =
    ap (λ n. set written slot area ++ replicate (slots - n) no_area) (length-set written slot area)
    ∙ sym (set-append_left written (replicate (slots - length written) no_area) slot area within)
