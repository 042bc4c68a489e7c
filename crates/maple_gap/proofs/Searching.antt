-- For `search`: what is sought under the root is the answer.
use Rattle.std.proofs.Common.{ℕ, ◌≡◌, ◌≤◌, true, false, List, Option, Some, None, refl, sym, ap, subst, ◌∙◌, arith}
use Rattle.std.specs.Prelude.{is_some, IfSome}
use Rattle.std.specs.Option.{option_or}
use Rattle.maple_node.specs.declared.item.NodeItem.{NodeItem}
use Rattle.maple_node.specs.Nodes.{items_end, Ascends}
use Rattle.maple_node.specs.Levels.{is_leaf}
use Rattle.maple_node.specs.Trees.{Pair, pairs_from}
use Rattle.node_slots.specs.declared.tree.Tree.{Tree}
use Rattle.node_slots.specs.declared.seats.NodeWriter.{NodeWriter}
use Rattle.node_slots.specs.Built.{words_at, pairs_now}
use Rattle.maple_gap.specs.declared.window.Side.{Side}
use Rattle.maple_gap.specs.declared.window.Window.{Window}
use Rattle.maple_gap.specs.declared.branch.Branch.{Branch}
use Rattle.maple_gap.specs.Gaps.{fits}
use Rattle.maple_gap.specs.Internal.Searches.{may_have_room, best, entries_under, best_under, IsBranch, IsSpare, IsRootOf, IsOutermost}
use Rattle.maple_gap.proofs.Under.{spread_any, found_in, Known, known_under}
use Rattle.maple_gap.proofs.Free.{answer_of}

-- the entries of the whole tree
pub record Entries (limit : ℕ) (entries : List NodeItem) : Type 0 where
  pub ascends : Ascends 0 entries
  pub ending : items_end 0 entries ≡ limit

pub entries_of_root : (writer : NodeWriter) (tree : Tree) (root : Branch) → IsRootOf writer tree root
    → Entries tree.limit.0 (entries_under (words_at writer) root)
entries_of_root writer tree root is =
    let at = words_at writer in
    let all = spread_any at is.branch.limit root.level root.place.start is.branch.gap root.place.item is.branch.under in
    let entries = entries_under at root in
    record {
      ascends = subst (λ (p : ℕ). Ascends p entries) is.begin all.ascends;
      ending = sym (ap (λ (p : ℕ). items_end p entries) is.begin) ∙ all.ending ∙ is.limit;
    }

pub answered : (side : Side) (window : Window) (writer : NodeWriter) (tree : Tree) (root : Branch) (result : Option ℕ) → IsRootOf writer tree root
    → 1 ≤ window.len → window.hi ≤ tree.limit.0 → best_under side window (words_at writer) root ≡ result
    → IsOutermost side (fits (pairs_now writer tree) window.len window.lo window.hi) result
answered side window writer tree root result is some limit told =
    let at = words_at writer in
    let entries = entries_under at root in
    let all = entries_of_root writer tree root is in
    let ending = all.ending in
    let here = answer_of side window entries some all.ascends is.apart (omega arith) in
    let from : best side window 0 entries ≡ result = sym (ap (λ (p : ℕ). best side window p entries) is.begin) ∙ told in
    let Of : List Pair → Type 0 = λ pairs. IsOutermost side (fits pairs window.len window.lo window.hi) result in
    subst Of is.pairs (subst (λ (o : Option ℕ). IsOutermost side (fits (pairs_from 0 entries) window.len window.lo window.hi) o) from here)

-- nothing is under a root that may have no room
pub no_room : (side : Side) (window : Window) (at : ℕ → List ℕ) (root : Branch) → IsBranch at root → 1 ≤ window.len
    → may_have_room window (is_leaf root.level) root.place.start root.place.item ≡ false → best_under side window at root ≡ None
no_room side window at root is some out = go (best_under side window at root) refl where
  known : Known window (is_leaf root.level) (found_in side window at root.level) root.place.start root.place.item
  known = known_under side window at is.limit root.level root.place.start root.place.item some is.under

  go : (o : Option ℕ) → best_under side window at root ≡ o → o ≡ None
  go None told = refl
  go (Some s) told = let may = known.room s told in absurd (cc)

-- what was found is what is sought, or else that is under the spare branch
pub found_first : (found rest sought : Option ℕ) → sought ≡ option_or found rest → is_some found ≡ true → sought ≡ found
found_first None rest sought is some = absurd (cc)
found_first (Some s) rest sought is some = is

pub found_none : (found rest sought : Option ℕ) → sought ≡ option_or found rest → is_some found ≡ false → sought ≡ rest
found_none None rest sought is some = is
found_none (Some s) rest sought is some = absurd (cc)

pub spare_is : (side : Side) (window : Window) (at : ℕ → List ℕ) (level : ℕ) (spare : Option Branch) (branch : Branch) → spare ≡ Some branch
    → IfSome spare (λ s. IsSpare side window at s × (s.level ≤ level)) → IsSpare side window at branch × (branch.level ≤ level)
spare_is side window at level spare branch is told =
    subst (λ (o : Option Branch). IfSome o (λ s. IsSpare side window at s × (s.level ≤ level))) is told
