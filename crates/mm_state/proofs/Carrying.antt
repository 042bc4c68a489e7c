-- For `AreaStore::change_all`: a whole plan is carried out.
use Rattle.std.proofs.Common.{◌≡◌, ◌≤◌, ◌<◌, ◌+◌, ℕ, List, [], ◌∷◌, length, take, drop, get_or, All, refl, sym, ap, ◌∙◌, arith, length-append, drop-cons, add-one, vec_len, vec_capacity}
use Rattle.std.specs.List.{Contains}
use Rattle.std.proofs.lemmas.List.{length-map, get_or-map, take-append-drop}
use Rattle.std.proofs.lemmas.List.Elements.{All-contains, All-weaker}
use Rattle.std.proofs.lemmas.List.Sums.{sum_by-cons, sum_by-take-drop}
use Rattle.mm_types.specs.Config.{slots_for}
use Rattle.mm_types.specs.declared.area.Record.{Record}
use Rattle.split_merge.specs.declared.plan.Change.{Change}
use Rattle.split_merge.specs.Plans.{olds_of, news_of, without, IsPlanOf}
use Rattle.split_merge.proofs.Replacing.{news_of-append}
use Rattle.split_merge.proofs.Editing.{news_from}
use Rattle.split_merge.proofs.Leaving.{there_in}
use Rattle.vma_lock.specs.Seats.{slots_of}
use Rattle.area_tree.specs.declared.shown.ShownArea.{ShownArea}
use Rattle.area_tree.specs.AreaTrees.{AreaTreeView, shown_of, areas_of, areas_shown}
use Rattle.mm_state.specs.declared.store.AreaStore.{AreaStore}
use Rattle.mm_state.specs.Internal.AreaStores.{adds, adds_of, CanChange, IsAreaShown, IsChanging}

-- the store can be changed on
pub can_change : (start store : AreaStore) (done : List Change) (tree : ℕ) → CanChange start → IsChanging start store done tree → CanChange store
can_change start store done tree can changing = record {
  table = changing.mine;
  open_call = rw changing.beside.seq can.open_call;
  count = changing.count ∙ can.count ∙ ap slots_of (sym changing.table);
  records = changing.count ∙ can.records ∙ sym (ap (λ (t : AreaTreeView). slots_for t.tree.areas) changing.same);
  hangs = changing.hangs;
  roomy = ap (λ (t : AreaTreeView). t.tree.roomy) changing.same ∙ can.roomy;
}

-- a change and the later ones bring no more than all
pub news_bound : (changes : List Change) (place left : ℕ) (d : Change) → place < length changes → place + 1 ≡ left
    → length (news_of (get_or changes place d ∷ [])) + length (news_of (drop left changes)) ≤ length (news_of changes)
news_bound changes place left d within next =
    let parts = ap length (ap news_of (sym (take-append-drop place changes)) ∙ news_of-append (take place changes) (drop place changes)) in
    let here = ap length (news_from changes place d within) in
    let same = ap (λ n. length (news_of (drop n changes))) next in
    omega (
      arith,
      parts,
      here,
      same,
      length-append (news_of (take place changes)) (news_of (drop place changes)),
      length-append (news_of (get_or changes place d ∷ [])) (news_of (drop (place + 1) changes)),
    )

pub drop_one : (changes : List Change) (place left : ℕ) (d : Change) → place < length changes → place + 1 ≡ left
    → get_or changes place d ∷ drop left changes ≡ drop place changes
drop_one changes place left d within next =
    ap (λ n. get_or changes place d ∷ drop n changes) (sym next ∙ add-one place) ∙ sym (drop-cons changes place d within)

-- a slot is free for what a change adds
pub free_left : (start store : AreaStore) (changes : List Change) (place left : ℕ) (d : Change) (tree : ℕ) → IsChanging start store (drop left changes) tree
    → place < length changes → place + 1 ≡ left → adds_of changes ≤ length start.slots.free
    → adds (get_or changes place d) ≤ length store.slots.free
free_left start store changes place left d tree changing within next room = omega (
  arith,
  changing.free,
  room,
  ap adds_of (drop_one changes place left d within next),
  sum_by-cons adds (get_or changes place d) (drop left changes),
  sum_by-take-drop adds changes place,
)

-- there is room for what a change moves
pub room_left : (start store : AreaStore) (changes : List Change) (place left : ℕ) (d : Change) (tree : ℕ) → IsChanging start store (drop left changes) tree
    → place < length changes → place + 1 ≡ left → length (news_of changes) ≤ vec_capacity start.moved
    → vec_len store.moved + length (news_of (get_or changes place d ∷ [])) ≤ vec_capacity store.moved
room_left start store changes place left d tree changing within next room = omega (
  arith,
  store.moved.ok.0,
  changing.moved_room,
  room,
  changing.few_moved,
  news_bound changes place left d within next,
)

-- what a change takes away is left when the later ones are carried out
pub left_there : (start store : AreaStore) (changes : List Change) (place left : ℕ) (d : Change) (tree : ℕ) → IsChanging start store (drop left changes) tree
    → IsPlanOf (areas_of start.areas) changes → place < length changes → place + 1 ≡ left
    → All (Contains (without (olds_of (drop left changes)) (areas_of start.areas))) (olds_of (get_or changes place d ∷ []))
left_there start store changes place left d tree changing plan within next =
    there_in (areas_of start.areas) (without (olds_of (drop left changes)) (areas_of start.areas)) changes place left d changing.ascend plan.members plan.distinct within next refl

pub shown_contained : (tree : List ShownArea) (area : Record) → IsAreaShown tree area → Contains (areas_shown tree) area
shown_contained tree area (slot, member) = (
  member.0,
  omega (arith, member.1, length-map tree (λ (s : ShownArea). s.area)),
  get_or-map (λ (s : ShownArea). s.area) tree member.0 (record { slot = slot; area = area }) area member.1 ∙ ap (λ (s : ShownArea). s.area) member.2,
)

-- and so is in the tree
pub in_tree : (start store : AreaStore) (changes : List Change) (place left : ℕ) (d : Change) (tree : ℕ) → IsChanging start store (drop left changes) tree
    → IsPlanOf (areas_of start.areas) changes → place < length changes → place + 1 ≡ left
    → All (Contains (areas_of store.areas)) (olds_of (get_or changes place d ∷ []))
in_tree start store changes place left d tree changing plan within next =
    All-weaker (Contains rest) (Contains (areas_of store.areas))
    (λ area member. shown_contained (shown_of store.areas) area (All-contains (IsAreaShown (shown_of store.areas)) rest area changing.there member))
    (olds_of (get_or changes place d ∷ [])) (left_there start store changes place left d tree changing plan within next)
  where
    rest : List Record
    rest = without (olds_of (drop left changes)) (areas_of start.areas)
