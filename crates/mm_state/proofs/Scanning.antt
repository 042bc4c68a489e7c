-- For `scan_for` and `wait_for_slots`: what scans change, and what is free once no reader is inside.
use Rattle.std.proofs.Common.{ℕ, ◌≡◌, ◌≤◌, ◌<◌, ◌+◌, ◌*◌, ◌++◌, ◌∙◌, ◌⊎◌, inl, inr, Bool, true, false, nat_le, refl, List, [], ◌∷◌, length, get_or, All, sym, ap, arith, length-append, append_assoc}
use Rattle.std.proofs.lemmas.Bool.Decides.{nat_tests}
use Rattle.std.proofs.lemmas.List.{length-map}
use Rattle.std.proofs.lemmas.List.Elements.{recursion_from_All, All-nil, All-cons, All-append}
use Rattle.split_merge.proofs.Lists.{filter_all}
use Rattle.node_slots.specs.Seats.{AreOut, HasOpen}
use Rattle.area_tree.proofs.Scanning.{out_or_open}
use Rattle.area_slots.specs.declared.leaving.Leaving.{Leaving}
use Rattle.area_slots.specs.Slots.{SlotSet, retired_by, gone_by, gone_after, slots_left}
use Rattle.area_tree.specs.AreaTrees.{AreaTreeView}
use Rattle.mm_state.specs.Internal.AreaStores.{CanFree, IsAreaTreeScanned}

-- a scan is one of scans
pub scanned : (old new : AreaTreeView) (scans : ℕ) (found : List ℕ)
    → new ≡ record old { tree = record old.tree { elapsed = new.tree.elapsed; scans = scans; found = found; pins = new.tree.pins; free = new.tree.free } } → IsAreaTreeScanned old new
scanned old new scans found same = same
    ∙ ap (λ (t : AreaTreeView). record old { tree = record old.tree { elapsed = new.tree.elapsed; scans = t.tree.scans; found = t.tree.found; pins = new.tree.pins; free = new.tree.free } }) (sym same)

pub scanned_more : (first second third : AreaTreeView) → IsAreaTreeScanned first second → IsAreaTreeScanned second third → IsAreaTreeScanned first third
scanned_more first second third one two = two
    ∙ ap (λ (t : AreaTreeView). record t { tree = record t.tree { elapsed = third.tree.elapsed; scans = third.tree.scans; found = third.tree.found; pins = third.tree.pins; free = third.tree.free } }) one

-- a tree that was prepared, and then scanned
pub readied : (old prepared new : AreaTreeView) (changed : Bool)
    → prepared ≡ record old {
      tree = record old.tree {
        changed = changed;
        roomy = true;
        elapsed = prepared.tree.elapsed;
        scans = prepared.tree.scans;
        found = prepared.tree.found;
        pins = prepared.tree.pins;
        free = prepared.tree.free;
      };
    }
    → IsAreaTreeScanned prepared new
    → new ≡ record old {
      tree = record old.tree {
        changed = new.tree.changed;
        roomy = true;
        elapsed = new.tree.elapsed;
        scans = new.tree.scans;
        found = new.tree.found;
        pins = new.tree.pins;
        free = new.tree.free;
      };
    }
readied old prepared new changed same scanned_on =
    let one = ap (λ (t : AreaTreeView). record t {
      tree = record t.tree {
        elapsed = new.tree.elapsed;
        scans = new.tree.scans;
        found = new.tree.found;
        pins = new.tree.pins;
        free = new.tree.free;
      };
    }) same in
    let stays : new.tree.changed ≡ changed = ap (λ (t : AreaTreeView). t.tree.changed) scanned_on ∙ ap (λ (t : AreaTreeView). t.tree.changed) same in
    scanned_on ∙ one ∙ ap (λ b. record old {
      tree = record old.tree {
        changed = b;
        roomy = true;
        elapsed = new.tree.elapsed;
        scans = new.tree.scans;
        found = new.tree.found;
        pins = new.tree.pins;
        free = new.tree.free;
      };
    }) (sym stays)

-- one round more looks at each pin once more
round_sum : (rounds pins : ℕ) → (rounds + 1) * pins ≡ rounds * pins + pins
round_sum rounds pins = grind arith

pub round_more : (first mid last : AreaTreeView) (wanted free : ℕ) (rounds : List ℕ) → mid.tree.found ≡ first.tree.found ++ rounds → All (λ free. free < wanted) rounds
    → mid.tree.scans ≡ first.tree.scans + length rounds * length first.tree.pins → free < wanted → last.tree.found ≡ mid.tree.found ++ free ∷ []
    → last.tree.scans ≡ mid.tree.scans + length mid.tree.pins → length mid.tree.pins ≡ length first.tree.pins
    → (more : List ℕ) × (last.tree.found ≡ first.tree.found ++ more) × All (λ free. free < wanted) more
    × (last.tree.scans ≡ first.tree.scans + length more * length first.tree.pins)
round_more first mid last wanted free rounds found few scans less noted looks same = (
  rounds ++ free ∷ [],
  noted ∙ ap (λ (l : List ℕ). l ++ free ∷ []) found ∙ append_assoc first.tree.found rounds (free ∷ []),
  All-append (λ free. free < wanted) rounds (free ∷ []) few (All-cons (λ free. free < wanted) free [] less (All-nil (λ free. free < wanted))),
  omega (arith, scans, looks, same, round_sum (length rounds) (length first.tree.pins)) ∙ ap (λ n. first.tree.scans + n * length first.tree.pins) (sym (length-append rounds (free ∷ []))),
)

times_sum : (tries rounds pins : ℕ) → (tries + rounds + 1) * pins ≡ (tries + 1) * pins + rounds * pins
times_sum tries rounds pins = grind arith

-- scans of each pin, and more of them
pub scans_together : (first mid last pins later tries rounds : ℕ) → mid ≡ first + (tries + 1) * pins → last ≡ mid + rounds * later → later ≡ pins
    → last ≡ first + (tries + rounds + 1) * pins
scans_together first mid last pins later tries rounds one two same =
    let more = ap (λ k. rounds * k) same in
    let sum = times_sum tries rounds pins in
    omega (arith, one, two, more, sum)

-- as many or more are gone by a later tree
one_more : (elapsed later : ℕ) → elapsed ≤ later → (l : Leaving) (left : List Leaving) → length (gone_by elapsed left) ≤ length (gone_by later left)
    → length (gone_by elapsed (l ∷ left)) ≤ length (gone_by later (l ∷ left))
one_more elapsed later upto l left rest = first (nat_le l.tree elapsed) refl
  where
    first : (b : Bool) → nat_le l.tree elapsed ≡ b → length (gone_by elapsed (l ∷ left)) ≤ length (gone_by later (l ∷ left))
    first true gone =
        let too : nat_le l.tree later ≡ true = grind (arith, nat_tests) in
        rw (gone, too) (omega (arith, rest))
    first false stays = rw stays (second (nat_le l.tree later) refl)
      where
        second : (b : Bool) → nat_le l.tree later ≡ b → length (gone_by elapsed left) ≤ length (gone_by later (l ∷ left))
        second true gone = rw gone (omega (arith, rest))
        second false still = rw still rest

pub gone_more : (elapsed later : ℕ) → elapsed ≤ later → (left : List Leaving) → length (gone_by elapsed left) ≤ length (gone_by later left)
gone_more elapsed later upto [] = omega arith
gone_more elapsed later upto (l ∷ left) = one_more elapsed later upto l left (gone_more elapsed later upto left)

-- each of those that left by a tree is gone by it
all_gone : (tree : ℕ) (left : List Leaving) → All (λ leaving. leaving.tree ≤ tree) left → gone_by tree left ≡ left
all_gone tree left all = filter_all (retired_by tree) left (recursion_from_All (λ leaving. retired_by tree leaving ≡ true) left (λ k d within. by (get_or left k d).tree (all k d within)))
  where
    by : (n : ℕ) → n ≤ tree → nat_le n tree ≡ true
    by n upto = grind (arith, nat_tests)

-- where fewer are free than wanted after a scan, it found a reader inside
pub some_inside : (areas new : AreaTreeView) (set after : SlotSet) (wanted : ℕ) → CanFree areas set wanted → new.tree.number ≡ areas.tree.number
    → (AreOut new.tree.pins → new.tree.elapsed ≡ new.tree.number)
    → after ≡ record set { free = set.free ++ slots_left (gone_by new.tree.elapsed set.left); left = gone_after new.tree.elapsed set.left }
    → length after.free < wanted → HasOpen new.tree.pins
some_inside areas new set after wanted can same gone seen few = by (out_or_open new.tree.pins)
  where
    by : AreOut new.tree.pins ⊎ HasOpen new.tree.pins → HasOpen new.tree.pins
    by (inr some) = some
    by (inl out) = absurd (omega (
      arith,
      few,
      can.enough,
      ap (λ (s : SlotSet). length s.free) seen,
      length-append set.free (slots_left (gone_by new.tree.elapsed set.left)),
      length-map (gone_by new.tree.elapsed set.left) (λ (l : Leaving). l.slot),
      ap (λ n. length (gone_by n set.left)) (gone out ∙ same),
      ap length (all_gone areas.tree.number set.left can.left),
    ))
