-- For the tests: what each pass does in a thread of its own, and how many operations it has.
use Rattle.std.proofs.Common.{ℕ, ◌≡◌, ◌<◌, List, length, get_or, slice_get, Some, ap, subst, ◌∙◌}
use Rattle.std.proofs.lemmas.Option.{slice_get_within, slice_get-get_or, get_or_from_slice_get}
use Rattle.fault_path.specs.Passes.{PassView, caller}
use Rattle.mm_space.specs.Names.{SpaceId, IsPassOf, ArePasses}
use Rattle.mm_space.specs.Opening.{AreOpened}

-- each pass stays of its space and its caller
pub drove : (name : SpaceId) (olds news : List PassView) → ArePasses name olds → length news ≡ length olds
    → ((place : ℕ) (d : PassView) → place < length olds
    → IsPassOf name (get_or news place d) × (caller (get_or news place d) ≡ caller (get_or olds place d)))
    → ArePasses name news
drove name olds news are same each = record {
  all = same ∙ are.all;
  each = λ place pass at.
      let within = subst (λ n. place < n) same (slice_get_within news place pass at) in
      let kept = each place pass within in
      let old = are.each place (get_or olds place pass) (slice_get-get_or olds place pass within) in
      let is = get_or_from_slice_get news place pass pass at in
      subst (λ (p : PassView). IsPassOf name p × (caller p ≡ place)) is (kept.0, kept.1 ∙ old.1);
}

-- what is so of references is so of what they show
pub moved : (P : PassView → PassView → Type 0) (a b x y : PassView) → a ≡ x → b ≡ y → P a b → P x y
moved P a b x y first second holds = subst (λ p. P p y) first (subst (λ q. P a q) second holds)

-- a pass of a new space has its caller's operations left
pub left_at : (name : SpaceId) (passes : List PassView) (place : ℕ) (pass : PassView) → AreOpened name passes → slice_get passes place ≡ Some pass
    → pass.left ≡ get_or name.operations place 0
left_at name passes place pass fresh at =
    let of = fresh.passes_are.each place pass at in
    (fresh.opened place pass at).left ∙ of.0.operations ∙ ap (λ c. get_or name.operations c 0) of.1
