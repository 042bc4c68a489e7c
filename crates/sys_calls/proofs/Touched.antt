-- For `plan_unsealed`: a touch plans one change at most.
use Rattle.std.proofs.Common.{◌≡◌, ◌≤◌, ◌⊎◌, ℕ, List, [], length, Option, Some, None, refl, ap, ◌∙◌, inl, inr, arith}
use Rattle.std.proofs.lemmas.Bool.{cond_both}
use Rattle.mm_types.specs.declared.area.Access.{Access}
use Rattle.mm_types.specs.declared.area.Record.{Record}
use Rattle.mm_types.specs.declared.call.Errno.{Errno}
use Rattle.mm_types.specs.declared.call.Errno.TheVariants.{Efault}
use Rattle.mm_types.specs.declared.call.Reply.{Reply}
use Rattle.mm_types.specs.declared.call.Reply.TheVariants.{Grown, Refused}
use Rattle.mm_types.specs.declared.config.Config.{Config}
use Rattle.area_rules.specs.Growing.{grower, grows, grown_to, grown, touch}
use Rattle.area_rules.specs.Tables.{AddressSpace, Outcome}
use Rattle.split_merge.specs.declared.plan.Change.{Change}
use Rattle.split_merge.specs.Plans.{IsOneAlter}

-- a touch is answered by an area that grew, or refused
abbrev IsTouchReply : Reply → Type 0
IsTouchReply reply = ((area : Record) × (index : ℕ) × (reply ≡ Grown area index)) ⊎ ((errno : Errno) × (reply ≡ Refused errno))

grown_reply : (space : AddressSpace) (page : ℕ) (found : Option Record) → IsTouchReply (grown space page found).reply
grown_reply space page None = inr (Efault, refl)
grown_reply space page (Some area) = inl (grown_to page area, 0, refl)

touch_reply : (config : Config) (space : AddressSpace) (page : ℕ) (access : Access) → IsTouchReply (touch config space page access).reply
unfolding touch
touch_reply config space page access =
    cond_both (grows config space.areas page access) (grown space page (grower config space.areas page)) (record { space = space; reply = Refused Efault })
    (λ (outcome : Outcome). IsTouchReply outcome.reply) (λ is. grown_reply space page (grower config space.areas page)) (λ is. inr (Efault, refl))

-- where the area that grew is the one change, and a refusal is no change
pub touch_one : (config : Config) (space : AddressSpace) (page : ℕ) (access : Access) (reply : Reply) (changes : List Change)
    → reply ≡ (touch config space page access).reply → ((area : Record) (index : ℕ) → reply ≡ Grown area index → IsOneAlter changes area)
    → ((errno : Errno) → reply ≡ Refused errno → changes ≡ []) → length changes ≤ 1
touch_one config space page access reply changes is altered refused = elim (touch_reply config space page access) [
  | inl grown ↦ omega (arith, ap length (altered grown.0 grown.1 (is ∙ grown.2)).1)
  | inr refusal ↦ omega (arith, ap length (refused refusal.0 (is ∙ refusal.1)))
]
