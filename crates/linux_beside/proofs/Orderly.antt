-- Steps that leave a list in order, one after the other.
use Rattle.std.proofs.Common.{arith, sym, subst, ◌∙◌}
use Rattle.std.proofs.lemmas.Bool.Decides.{nat_tests}
use Rattle.std.specs.Prelude.{ℕ, ◌≡◌, ◌<◌, ◌≤◌, ◌+◌, Bool, true, false, not, if◌then◌else◌, nat_eq, nat_lt, List, [], ◌∷◌, filter, Option, Some, None, IfSome, is_some, Result, Ok, Err, refl}
use Rattle.std.specs.Option.{option_or}
use Rattle.linux_rules.specs.declared.area.AnonVma.{AnonVma}
use Rattle.linux_rules.specs.declared.area.Vma.{Vma}
use Rattle.linux_rules.specs.AnonVmas.{anon_vma_prepare, mergeable_anon}
use Rattle.linux_rules.specs.Areas.{find_vma, vma_lookup, without_vma, with_vma, replaced}
use Rattle.linux_rules.specs.Doing.{LinuxSpace, Did, Doing, ◌>>◌, go_on, done, refuse_if}
use Rattle.linux_rules.specs.Merging.{Merged}
use Rattle.linux_rules.specs.Mmap.{merged_or_new}
use Rattle.linux_beside.specs.InOrder.{AreInOrder, AreInOrderFrom}
use Rattle.linux_beside.proofs.SplitLemmas.{has}
use Rattle.linux_beside.proofs.RemovalLemmas.{removed, lies_in, filter_order, removed_is}
use Rattle.linux_beside.proofs.LookUps.{IsOneOf, IsPut, nothing_below, put_free, put_over, put_one}
use Rattle.linux_beside.proofs.MunmapLemmas.{IsGathered}
use Rattle.linux_beside.proofs.Merges.{HasRoom, IsMergedInto}

-- a test that may refuse, and the steps behind it
pub tested : {A : Type 0} (test : Bool) (error : ℕ) (next : Doing A) (space : LinuxSpace) → AreInOrder space.areas
    → (test ≡ false → AreInOrder (next space).space.areas) → AreInOrder ((refuse_if test error >> next) space).space.areas
tested true error next space order rest = order
tested false error next space order rest = rest refl

-- steps behind one that did this
pub went_on : {A B : Type 0} (after : LinuxSpace) (r : Result A ℕ) (next : A → Doing B) → AreInOrder after.areas
    → ((value : A) → r ≡ Ok value → AreInOrder (next value after).space.areas) → AreInOrder (go_on after r next).space.areas
went_on after (Ok value) next order rest = rest value refl
went_on after (Err error) next order rest = order

-- what a step did that returns an area of a list in order
pub record LeavesOne (did : Did Vma) : Type 0 where
  pub order : AreInOrder did.space.areas
  pub one : (vma : Vma) → did.result ≡ Ok vma → IsOneOf 0 vma did.space.areas

pub one_refused : (space : LinuxSpace) (error : ℕ) → AreInOrder space.areas → LeavesOne (record { space = space; result = Err error })
one_refused space error order = record { order = order; one = λ vma is. absurd (cc) }

pub one_is : (space : LinuxSpace) (vma : Vma) → AreInOrder space.areas → IsOneOf 0 vma space.areas → LeavesOne (done vma space)
one_is space vma order one = record { order = order; one = λ v is. let same : vma ≡ v = cc in subst (λ (u : Vma). IsOneOf 0 u space.areas) same one }

-- a new area on its own, or merged
pub put_merged : (new : Vma) (areas : List Vma) (space : LinuxSpace) (o : Option Merged) → HasRoom new.lo new.hi areas → IfSome o (IsMergedInto areas)
    → LeavesOne (merged_or_new new areas o space)
put_merged new areas space None room is =
    let put : IsPut new areas (with_vma new areas) = put_free new areas room.order room.some
    (λ page it. room.free page (grind (arith, nat_tests)) (grind (arith, nat_tests))) in
    one_is (record space { areas = with_vma new areas }) new put.order (put_one new areas (with_vma new areas) put)
put_merged new areas space (Some merged) room is =
    one_is (record space { areas = merged.areas }) merged.vma is.order (put_one merged.vma areas merged.areas is)

-- between a page and the first area that ends above it nothing is looked up
pub hole : (low page at : ℕ) (areas : List Vma) → AreInOrderFrom low areas → page ≤ at → IfSome (find_vma areas page) (λ above. at < above.lo)
    → vma_lookup areas at ≡ None
hole low page at [] order from under = refl
hole low page at (first ∷ areas) order from under = case (nat_lt page first.hi) refl (λ is. hole first.hi page at areas order.2 from is) under
  where
    case : (test : Bool) → nat_lt page first.hi ≡ test → (IfSome (find_vma areas page) (λ above. at < above.lo) → vma_lookup areas at ≡ None)
        → IfSome (if test then Some first else find_vma areas page) (λ above. at < above.lo)
        → (if has first at then Some first else vma_lookup areas at) ≡ None
    case true is later below = let some = order.1 in let off : has first at ≡ false = grind (arith, nat_tests) in
        let rest = nothing_below first.hi at areas (omega arith) order.2 in rw off rest
    case false is later below = let off : has first at ≡ false = grind (arith, nat_tests) in rw off (later below)

-- an area that counts as written from then on
pub record LeavesSame (vma : Vma) (space : LinuxSpace) (did : Did Vma) : Type 0 where
  pub order : AreInOrder did.space.areas
  pub part : (v : Vma) → did.result ≡ Ok v → IsOneOf 0 v did.space.areas × (v.lo ≡ vma.lo) × (v.hi ≡ vma.hi)
  pub others : (page : ℕ) → has vma page ≡ false → vma_lookup did.space.areas page ≡ vma_lookup space.areas page

same_is : (space : LinuxSpace) (vma : Vma) → AreInOrder space.areas → IsOneOf 0 vma space.areas → LeavesSame vma space (done vma space)
same_is space vma order one = record {
  order = order;
  part = λ v is. let same : vma ≡ v = cc in subst (λ (u : Vma). IsOneOf 0 u space.areas × (u.lo ≡ vma.lo) × (u.hi ≡ vma.hi)) same (one, refl, refl);
  others = λ page off. refl;
}

pub written_is : (vma : Vma) (space : LinuxSpace) → AreInOrder space.areas → IsOneOf 0 vma space.areas → LeavesSame vma space (anon_vma_prepare vma space)
unfolding anon_vma_prepare
written_is vma space order one = at (is_some vma.anon)
  where
    anon : Option AnonVma
    anon = mergeable_anon space vma

    written : Vma
    written = record vma { anon = option_or anon (Some (record { number = space.anons; forked = false })) }

    after : List Vma
    after = replaced vma written space.areas

    put : IsPut written space.areas after
    put = put_over vma written space.areas order one one.some (λ page it. it) (λ page it off. absurd (cc))

    kept : (page : ℕ) → has vma page ≡ false → (if has vma page then Some written else vma_lookup space.areas page) ≡ vma_lookup space.areas page
    kept page off = rw off

    at : (had : Bool) → LeavesSame vma space (if had then record { space = space; result = Ok vma } else record {
      space = record space { areas = replaced vma written space.areas; anons = if is_some anon then space.anons else space.anons + 1 };
      result = Ok written;
    })
    at true = same_is space vma order one
    at false = record {
      order = put.order;
      part = λ v is. let same : written ≡ v = cc in
          subst (λ (u : Vma). IsOneOf 0 u after × (u.lo ≡ vma.lo) × (u.hi ≡ vma.hi)) same (put_one written space.areas after put, refl, refl);
      others = λ page off. put.looked page ∙ kept page off;
    }

-- areas that are taken leave a list in order
pub removed_order : (gone areas : List Vma) → AreInOrder areas → AreInOrder (removed gone areas)
removed_order [] areas order = order
removed_order (vma ∷ gone) areas order = removed_order gone (without_vma vma.lo areas) (filter_order (λ v. not (nat_eq v.lo vma.lo)) 0 areas order)

-- and what was free stays so
filter_free : (test : Vma → Bool) (page : ℕ) (areas : List Vma) → vma_lookup areas page ≡ None → vma_lookup (filter test areas) page ≡ None
filter_free test page [] none = refl
filter_free test page (first ∷ areas) none = case (has first page) (test first) (λ is. filter_free test page areas is) none
  where
    case : (here kept : Bool) → (vma_lookup areas page ≡ None → vma_lookup (filter test areas) page ≡ None)
        → (if here then Some first else vma_lookup areas page) ≡ None
        → vma_lookup (if kept then first ∷ filter test areas else filter test areas) page ≡ None
    case true kept later is = absurd (cc)
    case false true later is = let off : has first page ≡ false = first_off (has first page) refl none in rw off (later is)
      where
        first_off : (test : Bool) → has first page ≡ test → (if test then Some first else vma_lookup areas page) ≡ None → has first page ≡ false
        first_off true here none = absurd (cc)
        first_off false here none = here
    case false false later is = later is

removed_free : (page : ℕ) (gone areas : List Vma) → vma_lookup areas page ≡ None → vma_lookup (removed gone areas) page ≡ None
removed_free page [] areas none = none
removed_free page (vma ∷ gone) areas none = removed_free page gone (without_vma vma.lo areas) (filter_free (λ v. not (nat_eq v.lo vma.lo)) page areas none)

-- a range without the areas that have a page of it
cleared : (lo hi page : ℕ) (areas : List Vma) → lo ≤ page → page < hi → vma_lookup (filter (λ vma. not (lies_in lo hi vma)) areas) page ≡ None
cleared lo hi page [] from below = refl
cleared lo hi page (first ∷ areas) from below = case (lies_in lo hi first) refl (cleared lo hi page areas from below)
  where
    rest : List Vma
    rest = filter (λ vma. not (lies_in lo hi vma)) areas

    case : (inside : Bool) → lies_in lo hi first ≡ inside → vma_lookup rest page ≡ None → vma_lookup (if not inside then first ∷ rest else rest) page ≡ None
    case true is later = later
    case false is later = let off : has first page ≡ false = grind (arith, nat_tests) in rw off later

-- a list from which some areas may be taken, and then a range is free
pub record IsClearOf (lo hi : ℕ) (gone areas : List Vma) : Type 0 where
  pub order : AreInOrder areas
  pub room : HasRoom lo hi (removed gone areas)

-- what munmap gathered
pub gathered_clear : (lo hi : ℕ) (space : LinuxSpace) (did : Did (List Vma)) (gone : List Vma) → lo < hi → IsGathered lo hi space did → did.result ≡ Ok gone
    → IsClearOf lo hi gone did.space.areas
gathered_clear lo hi space did gone some is same = let facts = is.gone gone same in record {
  order = is.order;
  room = record {
    order = removed_order gone did.space.areas is.order;
    some = some;
    free = λ page from below. subst (λ (list : List Vma). vma_lookup (removed list did.space.areas) page ≡ None) (sym facts.0)
        (subst (λ (list : List Vma). vma_lookup list page ≡ None) (sym (removed_is lo hi 0 did.space.areas is.order))
        (cleared lo hi page did.space.areas from below));
  };
}

-- taken twice
pub clear_again : (lo hi : ℕ) (gone areas : List Vma) → IsClearOf lo hi gone areas → IsClearOf lo hi gone (removed gone areas)
clear_again lo hi gone areas clear = record {
  order = clear.room.order;
  room = record {
    order = removed_order gone (removed gone areas) clear.room.order;
    some = clear.room.some;
    free = λ page from below. removed_free page gone (removed gone areas) (clear.room.free page from below);
  };
}
