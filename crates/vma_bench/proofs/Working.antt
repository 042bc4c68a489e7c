-- Passes that callers worked with.
use Rattle.std.proofs.Common.{ℕ, ◌≡◌, ◌<◌, ◌∙◌, refl, subst, List, length, get_or, arith}
use Rattle.std.proofs.lemmas.Option.{slice_get_within, slice_get_read, slice_get-get_or, get_or_from_slice_get}
use Rattle.fault_path.specs.Passes.{PassView, caller}
use Rattle.mm_space.specs.Names.{SpaceId, IsPassOf, ArePasses}

module _ (name : SpaceId) where
  -- what a caller leaves of its pass
  abbrev pub Works : PassView → PassView → Type 0
  Works old new = IsPassOf name new × (caller new ≡ caller old)

  -- the passes after each was worked with
  pub passes_worked : (olds news : List PassView) → ArePasses name olds
      → length news ≡ length olds → ((i : ℕ) (d : PassView) → i < length olds → Works (get_or olds i d) (get_or news i d))
      → ArePasses name news
  passes_worked olds news passes many works = record {
    all = many ∙ passes.all;
    each = λ place new found.
        let within : place < length olds = omega (arith, many, slice_get_within news place new found) in
        let old : PassView = get_or olds place new in
        let work : Works old new =
        subst (λ (p : PassView). Works old p) (get_or_from_slice_get news place new new found) (works place new within) in
        (work.0, work.1 ∙ (passes.each place old (slice_get-get_or olds place new within)).1);
  }

  -- a pass of these is one of the space's
  pub is_one : (passes : List PassView) → ArePasses name passes → (i : ℕ) (pass : PassView) → i < length passes → pass ≡ get_or passes i pass
      → IsPassOf name pass
  is_one passes are i pass within read = (are.each i pass (slice_get_read passes (length passes) i pass refl within read)).0

  -- what a caller did with the pass that it was lent
  pub worked : (lent back old new : PassView) → lent ≡ old → back ≡ new → Works lent back → Works old new
  worked lent back old new before after did =
      subst (λ (p : PassView). Works p new) before (subst (λ (p : PassView). Works lent p) after did)
