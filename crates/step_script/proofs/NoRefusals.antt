-- For `grace_apply` and `lock_apply`: no test of a core refuses an event for want of memory.
use Rattle.std.proofs.Common.{◌≡◌, ◌≢◌, ℕ, Bool, true, cond, Option, Some, None, ap, ◌∙◌, inl, inr}
use Rattle.std.proofs.lemmas.Bool.{cond_both}
use Rattle.mm_types.specs.declared.config.Config.{Config}
use Rattle.mm_types.specs.declared.slot.Row.{Row}
use Rattle.grace_core.specs.declared.events.GraceEvent.{GraceEvent}
use Rattle.grace_core.specs.declared.events.GraceRefusal.{GraceRefusal}
use Rattle.grace_core.specs.declared.events.GraceRefusal.TheVariants as grace
use Rattle.grace_core.specs.Core as grace_states
use Rattle.grace_core.specs.Refusals as grace_refusals
use Rattle.grace_core.specs.States as grace_steps
use Rattle.lock_core.specs.declared.events.LockEvent.{LockEvent}
use Rattle.lock_core.specs.declared.events.StepRefusal.{StepRefusal}
use Rattle.lock_core.specs.declared.events.StepRefusal.TheVariants as lock
use Rattle.lock_core.specs.Core as lock_states
use Rattle.lock_core.specs.Refusals as lock_refusals
use Rattle.lock_core.specs.States as lock_steps

-- a row of tests with another answer, above rows that don't give this answer
other : {A : Type 0} (wanted answer : A) (test : Bool) (rest : Option A) → answer ≢ wanted → rest ≢ Some wanted
    → cond test (Some answer) rest ≢ Some wanted
other wanted answer test rest differs left = cond_both test (Some answer) rest (λ found. found ≢ Some wanted)
    (λ _ same. differs cc)
    (λ _. left)

-- a reason that has a value is another too
wrong_tree : (tree : ℕ) → grace.WrongTree tree ≢ grace.NoMemory
wrong_tree tree = λ same. cc

row_not_free : (row : Row) → grace.RowNotFree row ≢ grace.NoMemory
row_not_free row = λ same. cc

row_not_shown : (row : Row) → grace.RowNotShown row ≢ grace.NoMemory
row_not_shown row = λ same. cc

readers_left : (count : ℕ) → lock.ReadersLeft count ≢ lock.NoMemory
readers_left count = λ same. cc

not_the_list : (place : ℕ) → lock.NotTheList place ≢ lock.NoMemory
not_the_list place = λ same. cc

-- no row of the grace core gives it
pub grace-other : (core : grace_states.GraceCore) (event : GraceEvent) → grace_refusals.grace_refusal core event ≢ Some grace.NoMemory
unfolding grace_refusals.grace_refusal
grace-other core event =
    other grace.NoMemory grace.NotOpen _ _ (λ (same : grace.NotOpen ≡ grace.NoMemory). cc)
    (other grace.NoMemory grace.AlreadyOpen _ _ (λ (same : grace.AlreadyOpen ≡ grace.NoMemory). cc)
    (other grace.NoMemory _ _ _ (wrong_tree _)
    (other grace.NoMemory _ _ _ (row_not_free _)
    (other grace.NoMemory _ _ None (row_not_shown _) (λ (same : None ≡ Some grace.NoMemory). cc)))))

-- no row of the lock core gives it
pub lock-other : (config : Config) (core : lock_states.LockCore) (event : LockEvent) → lock_refusals.lock_refusal config core event ≢ Some lock.NoMemory
unfolding lock_refusals.lock_refusal
lock-other config core event =
    other lock.NoMemory lock.NoSlot _ _ (λ (same : lock.NoSlot ≡ lock.NoMemory). cc)
    (other lock.NoMemory lock.NotOpen _ _ (λ (same : lock.NotOpen ≡ lock.NoMemory). cc)
    (other lock.NoMemory lock.AlreadyOpen _ _ (λ (same : lock.AlreadyOpen ≡ lock.NoMemory). cc)
    (other lock.NoMemory lock.NotHeld _ _ (λ (same : lock.NotHeld ≡ lock.NoMemory). cc)
    (other lock.NoMemory lock.AlreadyHeld _ _ (λ (same : lock.AlreadyHeld ≡ lock.NoMemory). cc)
    (other lock.NoMemory lock.NotMarked _ _ (λ (same : lock.NotMarked ≡ lock.NoMemory). cc)
    (other lock.NoMemory _ _ _ (readers_left _)
    (other lock.NoMemory _ _ None (not_the_list _) (λ (same : None ≡ Some lock.NoMemory). cc))))))))

-- so where an event of the grace core finds no memory, nothing refuses it and it takes memory
pub grace-lacks : (core new : grace_states.GraceCore) (event : GraceEvent) (reason : GraceRefusal) → grace_steps.IsGraceStepRefused core event new reason
    → reason ≡ grace.NoMemory → (grace_refusals.grace_refusal core event ≡ None) × (grace_steps.takes_memory event ≡ true)
grace-lacks core new event reason refused lacks = elim refused.1 [
  | inl tested ↦ absurd (grace-other core event (tested ∙ ap Some lacks))
  | inr may ↦ (may.0, may.1)
]

-- and one of the lock core may take memory
pub lock-lacks : (state new : lock_steps.Lock) (event : LockEvent) (reason : StepRefusal) → lock_steps.IsLockStepRefused state event new reason
    → reason ≡ lock.NoMemory → lock_steps.may_lack_memory state.core event ≡ true
lock-lacks state new event reason refused lacks = elim refused.1 [
  | inl tested ↦ absurd (lock-other state.config state.core event (tested ∙ ap Some lacks))
  | inr may ↦ may.0
]
