-- For all calls of `AreaStore`: no row of an area is detached, and two areas have two rows.
use Rattle.std.proofs.Common.{◌≡◌, ◌≢◌, ◌+◌, ◌*◌, ◌^◌, ℕ, Bool, true, false, nat_eq, ◌&&◌, List, sym, ap, ◌∙◌, arith}
use Rattle.std.proofs.lemmas.Bool.{ne_eqb}
use Rattle.std.proofs.lemmas.Option.{same_Some}
use Rattle.mm_types.specs.declared.area.Record.{Record}
use Rattle.mm_types.specs.Packed.{packed, unpacked, attr_bits}
use Rattle.mm_state.specs.Internal.AreaStores.{IsPackable}
use Rattle.mm_types.proofs.PackedWords.{unpacked-packed}
use Rattle.lock_core.specs.Rows.{is_detached}

some_word : (first : ℕ) (rest : Bool) → first ≢ 0 → nat_eq first 0 && rest ≡ false
some_word first rest some = rw (ne_eqb first 0 some)

-- the row of an area is not detached
pub packed_attached : (area : Record) → is_detached (packed area) ≡ false
unfolding packed
packed_attached area = some_word (2 ^ 16 * area.span.lo + 2 ^ 15 + attr_bits area.attr)
    (nat_eq area.span.hi 0 && (nat_eq area.object 0 && (nat_eq area.offset 0 && true))) (λ (none : 2 ^ 16 * area.span.lo + 2 ^ 15 + attr_bits area.attr ≡ 0). omega arith)

-- areas with one row are one area
pub packed_same : (a b : Record) → IsPackable a → IsPackable b → packed a ≡ packed b → a ≡ b
packed_same a b first second same =
    same_Some a b (sym (unpacked-packed a first.valid first.object) ∙ ap unpacked same ∙ unpacked-packed b second.valid second.object)

-- two areas have two rows
pub packed_apart : (a b : Record) → IsPackable a → IsPackable b → a ≢ b → packed a ≢ packed b
packed_apart a b first second apart same = apart (packed_same a b first second same)

-- a detached row is that of no area
pub not_packed : (row : List ℕ) (area : Record) → is_detached row ≡ true → row ≢ packed area
not_packed row area is same =
    let two : true ≡ false = sym is ∙ ap is_detached same ∙ packed_attached area in cc
