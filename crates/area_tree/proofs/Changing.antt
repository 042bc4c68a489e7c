-- For `AreaTree::remove`, `AreaTree::update` and `AreaTree::insert`: what contracts see of a tree of which an area changes.
use Rattle.std.proofs.Common.{ℕ, ◌≡◌, ◌<◌, ◌≤◌, ◌+◌, ◌-◌, ◌*◌, ◌∙◌, true, List, ◌∷◌, length, set, Option, Some, sym, ap, subst, arith}
use Rattle.std.specs.Prelude.{Contains, IsPermutation}
use Rattle.mm_types.specs.declared.area.Record.{Record}
use Rattle.mm_types.specs.declared.slot.Slot.{Slot}
use Rattle.area_rules.specs.Placement.{is_free}
use Rattle.maple_node.specs.Pairs.{overwritten}
use Rattle.maple_gap.specs.Gaps.{first_pair_from, slot_in}
use Rattle.area_tree.specs.SpanTrees.{SpanView, ArePairs}
use Rattle.area_tree.specs.declared.shown.ShownArea.{ShownArea}
use Rattle.area_tree.specs.declared.tree.AreaTree.TheInside.{Inside}
use Rattle.area_tree.specs.AreaTrees.{AreaTreeView, shown_of, areas_of, times_shown, AreRecords}
use Rattle.area_tree.specs.Kept.{area_tree_view, IsAreaTree}
use Rattle.area_tree.proofs.Order.{count_areas}
use Rattle.area_tree.proofs.Finding.{slot_found}
use Rattle.area_tree.proofs.Showing.{IsOneLess, IsOneMore, taken, put, shows, slot_within, same_spans, updated}

-- the pairs of the fields are in order
abbrev pub InOrder : Inside → Type 0
InOrder fields = ArePairs (2 * fields.tree.areas + 2) fields.tree.limit 0 fields.tree.pairs

-- there are as many areas as pairs
pub counted : (fields : Inside) (view : AreaTreeView) → area_tree_view fields ≡ view → length (areas_of view) ≡ length fields.tree.pairs
counted fields view is = subst (λ (v : AreaTreeView). length (areas_of v) ≡ length fields.tree.pairs) is (count_areas fields.records fields.tree.pairs)

-- the slot that shows an area
pub slot_told : (fields : Inside) (view : AreaTreeView) (area : Record) (result : Option Slot) → IsAreaTree fields → area_tree_view fields ≡ view → InOrder fields
    → result ≡ slot_in (first_pair_from fields.tree.pairs area.span.lo) → Contains (areas_of view) area
    → (slot : Slot) × (result ≡ Some slot) × Contains (shown_of view) (record { slot = slot.0; area = area })
slot_told fields view area result kept is order found member =
    let told = slot_found fields.records (2 * fields.tree.areas + 2) fields.tree.limit area fields.tree.pairs order kept.spans
    (subst (λ (v : AreaTreeView). Contains (areas_of v) area) (sym is) member) in
    (record { 0 = told.0 }, found ∙ told.1, subst (λ (v : AreaTreeView). Contains (shown_of v) (record { slot = told.0; area = area })) is told.2)

-- a slot that shows an area is taken out with it
pub less : (fields : Inside) (view : AreaTreeView) (slot : ℕ) (area : Record) → IsAreaTree fields → area_tree_view fields ≡ view → InOrder fields
    → Contains (shown_of view) (record { slot = slot; area = area })
    → IsOneLess fields.records fields.tree.limit (record { slot = slot; area = area }) fields.tree.pairs (overwritten area.span.lo area.span.hi 0 fields.tree.pairs)
less fields view slot area kept is order member =
    taken fields.records (2 * fields.tree.areas + 2) fields.tree.limit slot area fields.tree.pairs order kept.spans
    (subst (λ (v : AreaTreeView). Contains (shown_of v) (record { slot = slot; area = area })) (sym is) member)

-- and each area has one
pub less_area : (fields : Inside) (view : AreaTreeView) (area : Record) → IsAreaTree fields → area_tree_view fields ≡ view → InOrder fields → Contains (areas_of view) area
    → (slot : ℕ) × IsOneLess fields.records fields.tree.limit (record { slot = slot; area = area }) fields.tree.pairs (overwritten area.span.lo area.span.hi 0 fields.tree.pairs)
less_area fields view area kept is order member =
    let found = slot_found fields.records (2 * fields.tree.areas + 2) fields.tree.limit area fields.tree.pairs order kept.spans
    (subst (λ (v : AreaTreeView). Contains (areas_of v) area) (sym is) member) in
    (found.0, taken fields.records (2 * fields.tree.areas + 2) fields.tree.limit found.0 area fields.tree.pairs order kept.spans found.2)

pub less_shown : (fields : Inside) (view : AreaTreeView) (tree : SpanView) (slot : ℕ) (area : Record) → IsAreaTree fields → area_tree_view fields ≡ view → InOrder fields
    → tree.pairs ≡ overwritten area.span.lo area.span.hi 0 fields.tree.pairs → Contains (shown_of view) (record { slot = slot; area = area })
    → IsPermutation (record { slot = slot; area = area } ∷ shown_of (record { tree = tree; records = fields.records; bounds = fields.bounds; sealed = fields.sealed })) (shown_of view)
less_shown fields view tree slot area kept is order stored member =
    let shown : ShownArea = record { slot = slot; area = area } in
    let told = less fields view slot area kept is order member in
    subst (λ (v : AreaTreeView). IsPermutation (shown ∷ shown_of (record { tree = tree; records = fields.records; bounds = fields.bounds; sealed = fields.sealed })) (shown_of v)) is
    (subst (λ ps. IsPermutation (shown ∷ shown_of (record { tree = record tree { pairs = ps }; records = fields.records; bounds = fields.bounds; sealed = fields.sealed })) (shown_of (area_tree_view fields)))
    (sym stored) told.shown_is)

-- a slot for free pages is put in
pub more : (fields : Inside) (view : AreaTreeView) (shown : ShownArea) → IsAreaTree fields → area_tree_view fields ≡ view → InOrder fields
    → shown.area.span.lo < shown.area.span.hi
    → is_free (areas_of view) (shown.area.span.hi - shown.area.span.lo) shown.area.span.lo ≡ true
    → shown.slot < 2 * view.tree.areas + 2
    → times_shown shown.slot (shown_of view) ≡ 0
    → IsOneMore fields.records shown fields.tree.pairs (overwritten shown.area.span.lo shown.area.span.hi (shown.slot + 1) fields.tree.pairs)
more fields view shown kept is order pages free slot none =
    put fields.records (2 * fields.tree.areas + 2) fields.tree.limit shown fields.tree.pairs order kept.spans
    (omega (arith, kept.slots, slot, ap (λ (v : AreaTreeView). v.tree.areas) is)) pages
    (subst (λ (v : AreaTreeView). is_free (areas_of v) (shown.area.span.hi - shown.area.span.lo) shown.area.span.lo ≡ true) (sym is) free)
    (subst (λ (v : AreaTreeView). times_shown shown.slot (shown_of v) ≡ 0) (sym is) none)

pub more_shown : (fields : Inside) (view : AreaTreeView) (tree : SpanView) (shown : ShownArea) → area_tree_view fields ≡ view
    → tree.pairs ≡ overwritten shown.area.span.lo shown.area.span.hi (shown.slot + 1) fields.tree.pairs
    → IsOneMore fields.records shown fields.tree.pairs (overwritten shown.area.span.lo shown.area.span.hi (shown.slot + 1) fields.tree.pairs)
    → IsPermutation (shown ∷ shown_of view) (shown_of (record { tree = tree; records = set fields.records shown.slot shown.area; bounds = fields.bounds; sealed = fields.sealed }))
more_shown fields view tree shown is stored told =
    subst (λ (v : AreaTreeView). IsPermutation (shown ∷ shown_of v) (shown_of (record { tree = tree; records = set fields.records shown.slot shown.area; bounds = fields.bounds; sealed = fields.sealed }))) is
    (subst (λ ps. IsPermutation (shown ∷ shown_of (area_tree_view fields)) (shown_of (record { tree = record tree { pairs = ps }; records = set fields.records shown.slot shown.area; bounds = fields.bounds; sealed = fields.sealed })))
    (sym stored) told.shown_is)

-- a slot that shows an area has a record
pub within : (fields : Inside) (view : AreaTreeView) (slot : ℕ) (area : Record) → IsAreaTree fields → area_tree_view fields ≡ view → InOrder fields
    → Contains (shown_of view) (record { slot = slot; area = area }) → slot < length fields.records
within fields view slot area kept is order member =
    let below = slot_within fields.records (2 * fields.tree.areas + 2) fields.tree.limit 0 slot area fields.tree.pairs order
    (subst (λ (v : AreaTreeView). Contains (shown_of v) (record { slot = slot; area = area })) (sym is) member) in
    omega (arith, below, kept.slots)

-- it may show another with the same pages
pub same_pages : (fields : Inside) (view : AreaTreeView) (slot : ℕ) (old area : Record) → IsAreaTree fields → area_tree_view fields ≡ view → InOrder fields
    → Contains (shown_of view) (record { slot = slot; area = old }) → old.span ≡ area.span
    → AreRecords (set fields.records slot area) fields.tree.pairs
same_pages fields view slot old area kept is order member same =
    let here = shows fields.records slot old fields.tree.pairs
    (subst (λ (v : AreaTreeView). Contains (shown_of v) (record { slot = slot; area = old })) (sym is) member) in
    same_spans fields.records slot area fields.tree.pairs (within fields view slot old kept is order member)
    (sym same ∙ ap (λ (a : Record). a.span) (sym here)) kept.spans

pub changed : (fields : Inside) (view : AreaTreeView) (slot : ℕ) (old area : Record) → IsAreaTree fields → area_tree_view fields ≡ view → InOrder fields
    → times_shown slot (shown_of view) ≤ 1 → Contains (shown_of view) (record { slot = slot; area = old })
    → (rest : List ShownArea) × IsPermutation (record { slot = slot; area = old } ∷ rest) (shown_of view)
    × IsPermutation (record { slot = slot; area = area } ∷ rest) (shown_of (record { tree = fields.tree; records = set fields.records slot area; bounds = fields.bounds; sealed = fields.sealed }))
changed fields view slot old area kept is order once member =
    let told = updated fields.records slot old area fields.tree.pairs (within fields view slot old kept is order member)
    (subst (λ (v : AreaTreeView). times_shown slot (shown_of v) ≤ 1) (sym is) once)
    (subst (λ (v : AreaTreeView). Contains (shown_of v) (record { slot = slot; area = old })) (sym is) member) in
    (told.0, subst (λ (v : AreaTreeView). IsPermutation (record { slot = slot; area = old } ∷ told.0) (shown_of v)) is told.1, told.2)
