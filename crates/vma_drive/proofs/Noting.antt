-- Serves `pass_note`: passes of which one is changed.
use Rattle.std.proofs.Common.{ℕ, ◌≡◌, ◌≢◌, ◌+◌, ◌<◌, ◌≤◌, ◌∙◌, refl, sym, ap, subst, nat_eq, List, length, get_or, set, slice_get, All, Some, arith, inl, inr}
use Rattle.std.proofs.lemmas.Bool.{cases_eq, eq-eqb, ne_eqb}
use Rattle.std.proofs.lemmas.List.{length-set, length-take, get_or-set_same, get_or-set_other}
use Rattle.std.proofs.lemmas.List.Elements.{All-weaker}
use Rattle.std.proofs.lemmas.Option.{slice_get_within, slice_get-get_or, get_or_from_slice_get, same_Some}
use Rattle.mm_types.specs.declared.call.Entry.{Entry}
use Rattle.area_rules.specs.Journals.{IsReadRight}
use Rattle.history.specs.declared.items.Item.{Item}
use Rattle.fault_path.specs.Passes.{PassView, caller, seen_by, IsLater}
use Rattle.mm_space.specs.Names.{SpaceId, IsPassOf, ArePasses}
use Rattle.mm_space.specs.Spaces.{Tells, Hears}
use Rattle.vma_drive.specs.Hearing.{own_by}
use Rattle.vma_drive.specs.Internal.Rounds.{IsMoved}
use Rattle.vma_drive.proofs.Growing.{grew_none, own_within}
use Rattle.vma_drive.proofs.ToldFirst.{Bit, no_move, move_on}

pub set_passes : (name : SpaceId) (passes : List PassView) (at : ℕ) (d new : PassView)
    → ArePasses name passes → at < length passes → IsPassOf name new → IsLater (get_or passes at d) new
    → ArePasses name (set passes at new)
set_passes name passes at d new are within is later = record {
  all = length-set passes at new ∙ are.all;
  each = λ place pass found.
      let inside : place < length passes = omega (arith, length-set passes at new, slice_get_within (set passes at new) place pass found) in
      elim (cases_eq place at) [
        | inl same ↦
            let new_is : new ≡ pass = sym (get_or-set_same passes at new pass within) ∙ ap (λ (n : ℕ). get_or (set passes at new) n pass) (sym same)
            ∙ get_or_from_slice_get (set passes at new) place pass pass found in (
              subst (λ (p : PassView). IsPassOf name p) new_is is,
              ap caller (sym new_is) ∙ later.by ∙ (are.each at (get_or passes at d) (slice_get-get_or passes at d within)).1 ∙ sym same,
            )
        | inr other ↦
            are.each place pass (slice_get-get_or passes place pass inside
            ∙ ap Some (sym (get_or-set_other passes at place new pass other) ∙ get_or_from_slice_get (set passes at new) place pass pass found))
      ];
}

-- what holds of the changed one, and of each unchanged one, holds of all
pub set_each : (R : ℕ → PassView → PassView → Type 0) (passes : List PassView) (at : ℕ) (d new : PassView) → at < length passes
    → R at (get_or passes at d) new → ((place : ℕ) (pass : PassView) → place ≢ at → R place pass pass)
    → (place : ℕ) (old next : PassView) → slice_get passes place ≡ Some old → slice_get (set passes at new) place ≡ Some next → R place old next
set_each R passes at d new within its others place old next was is = elim (cases_eq place at) [
  | inl same ↦
      let old_is : get_or passes at d ≡ old = ap (λ (n : ℕ). get_or passes n d) (sym same) ∙ get_or_from_slice_get passes place old d was in
      let new_is : new ≡ next = sym (get_or-set_same passes at new next within) ∙ ap (λ (n : ℕ). get_or (set passes at new) n next) (sym same)
      ∙ get_or_from_slice_get (set passes at new) place next next is in
      subst (λ (n : ℕ). R n old next) (sym same) (subst (λ (p : PassView). R at p next) old_is (subst (λ (p : PassView). R at (get_or passes at d) p) new_is its))
  | inr other ↦
      let same : old ≡ next = sym (get_or_from_slice_get passes place old old was) ∙ sym (get_or-set_other passes at place new old other)
      ∙ get_or_from_slice_get (set passes at new) place next old is in
      subst (λ (p : PassView). R place old p) same (others place old other)
]

module _ (name : SpaceId) (passes : List PassView) (teller hearer : ℕ) (d e spoke heard : PassView) (told : List Entry)
    (are : ArePasses name passes) (teller_in : teller < length passes) (hearer_in : hearer < length passes)
    (spoke_is : IsPassOf name spoke) (spoke_later : IsLater (get_or passes teller d) spoke)
    (tells : Tells (get_or passes teller d) spoke) where
  pub mids_are : ArePasses name (set passes teller spoke)
  mids_are = set_passes name passes teller d spoke are teller_in spoke_is spoke_later

  hearer_mid : hearer < length (set passes teller spoke)
  hearer_mid = omega (arith, length-set passes teller spoke, hearer_in)

  pub hearer_is : IsPassOf name (get_or (set passes teller spoke) hearer e)
  hearer_is = (mids_are.each hearer (get_or (set passes teller spoke) hearer e) (slice_get-get_or (set passes teller spoke) hearer e hearer_mid)).0

  module _ (heard_is : IsPassOf name heard) (heard_later : IsLater (get_or (set passes teller spoke) hearer e) heard)
      (hears : Hears (get_or (set passes teller spoke) hearer e) told heard) where
    pub noted_are : ArePasses name (set (set passes teller spoke) hearer heard)
    noted_are = set_passes name (set passes teller spoke) hearer e heard mids_are hearer_mid heard_is heard_later

    spoken : (place : ℕ) (old new : PassView) → slice_get passes place ≡ Some old → slice_get (set passes teller spoke) place ≡ Some new
        → IsMoved old new × (new.left + Bit (nat_eq place teller) ≡ old.left)
    spoken = set_each (λ place old new. IsMoved old new × (new.left + Bit (nat_eq place teller) ≡ old.left)) passes teller d spoke teller_in (
      record { later = spoke_later; grew = grew_none name.config (get_or passes teller d) spoke spoke_later tells.log tells.own },
      (let one : Bit (nat_eq teller teller) ≡ 1 = ap Bit (eq-eqb teller teller refl) in omega (arith, one, tells.left)),
    )
        (λ place pass other. (no_move pass, (let none : Bit (nat_eq place teller) ≡ 0 = ap Bit (ne_eqb place teller other) in omega (arith, none))))

    listened : (place : ℕ) (old new : PassView) → slice_get (set passes teller spoke) place ≡ Some old
        → slice_get (set (set passes teller spoke) hearer heard) place ≡ Some new → IsMoved old new × (new.left ≡ old.left)
    listened = set_each (λ place old new. IsMoved old new × (new.left ≡ old.left)) (set passes teller spoke) hearer e heard hearer_mid (
      record { later = heard_later; grew = grew_none name.config (get_or (set passes teller spoke) hearer e) heard heard_later hears.log hears.own },
      hears.left,
    )
        (λ place pass other. (no_move pass, refl))

    pub noted_moved : (place : ℕ) (old new : PassView) → slice_get passes place ≡ Some old
        → slice_get (set (set passes teller spoke) hearer heard) place ≡ Some new → IsMoved old new × (new.left + Bit (nat_eq place teller) ≡ old.left)
    noted_moved place old new was is =
        let mid : PassView = get_or (set passes teller spoke) place old in
        let between : slice_get (set passes teller spoke) place ≡ Some mid = slice_get-get_or (set passes teller spoke) place old
        (omega (arith, slice_get_within passes place old was, length-set passes teller spoke)) in
        let one = spoken place old mid was between in
        let two = listened place mid new between is in
        (move_on old mid new one.0 two.0, omega (arith, one.1, two.1))

    pub noted_heard : (p told_pass heard_pass : PassView) → slice_get passes teller ≡ Some p → told ≡ seen_by p
        → All (IsReadRight name.config (seen_by p)) p.log → slice_get passes teller ≡ Some told_pass
        → slice_get (set (set passes teller spoke) hearer heard) hearer ≡ Some heard_pass
        → All (λ (said : Item). said.version ≤ length (seen_by heard_pass)) (own_by told_pass)
    noted_heard p told_pass heard_pass was told_is right its is =
        let same : p ≡ told_pass = same_Some p told_pass (sym was ∙ its) in
        let new_is : heard ≡ heard_pass = sym (get_or-set_same (set passes teller spoke) hearer heard heard_pass hearer_mid)
        ∙ get_or_from_slice_get (set (set passes teller spoke) hearer heard) hearer heard_pass heard_pass is in
        let long : length told ≤ length (seen_by heard) = omega (arith, sym (ap length hears.begins) ∙ length-take (length told) (seen_by heard)) in
        let longer : length (seen_by p) ≤ length (seen_by heard_pass) =
        omega (arith, long, ap length told_is, ap (λ (x : PassView). length (seen_by x)) new_is) in
        subst (λ (x : PassView). All (λ (said : Item). said.version ≤ length (seen_by heard_pass)) (own_by x)) same
        (All-weaker (λ (said : Item). said.version ≤ length (seen_by p)) (λ (said : Item). said.version ≤ length (seen_by heard_pass))
        (λ said below. omega (arith, below, longer)) (own_by p)
        (own_within (caller p) (seen_by p) p.log (λ i x within. (right i x within).within)))

-- a pass that was read twice
pub reread : (passes : List PassView) (at : ℕ) (one two : PassView) → at < length passes → get_or passes at one ≡ get_or passes at two
reread passes at one two within = get_or_from_slice_get passes at (get_or passes at two) one (slice_get-get_or passes at two within)
