-- For `VmaTable::meet`: what a meeting of a reader and the writer leaves.
use Rattle.std.proofs.Common.{ℕ, ◌≡◌, ◌+◌, ◌/◌, ◌∙◌, inl, inr, sym, ap, subst, List, length, take, Option}
use Rattle.std.proofs.lemmas.Bool.{cases_Bool, cond-true, cond-false}
use Rattle.std.proofs.lemmas.List.{take-take}
use Rattle.mm_types.specs.declared.call.Entry.{Entry}
use Rattle.lock_core.specs.Core.{StartsWith}
use Rattle.vma_lock.specs.declared.view.View.{View}
use Rattle.vma_lock.specs.Views.{look_at, lock_joined_at, returned_at}
use Rattle.vma_lock.specs.Plays.{IsSettled, Sees, LooksAt}
use Rattle.vma_lock.specs.Seats.{is_turn_of, met_turn, greeted_at, Meets}
use Rattle.vma_lock.proofs.Journals.{starts_length, starts_same}

-- a reader with what it had seen, the writer's journal and its turn after a meeting
abbrev greeted : View → View → View → Option ℕ → View
greeted reader writer now turn = record reader { seen = now.seen; turn = turn; before = reader.seen; joined = writer.seen; own = now.own }

greeted_is : (reader writer now : View) → now ≡ greeted_at reader writer → now ≡ greeted reader writer now (met_turn writer reader)
greeted_is reader writer now is = elim (cases_Bool (is_turn_of reader.caller writer.turn)) [
  | inl back ↦
      let e : now ≡ returned_at reader writer = is ∙ cond-true (is_turn_of reader.caller writer.turn) (returned_at reader writer) (lock_joined_at reader writer) back in
      e ∙ ap (λ (v : View). greeted reader writer v writer.turn) (sym e)
      ∙ ap (greeted reader writer now) (sym (cond-true (is_turn_of reader.caller writer.turn) writer.turn reader.turn back))
  | inr none_back ↦
      let e : now ≡ lock_joined_at reader writer = is ∙ cond-false (is_turn_of reader.caller writer.turn) (returned_at reader writer) (lock_joined_at reader writer) none_back in
      e ∙ ap (λ (v : View). greeted reader writer v reader.turn) (sym e)
      ∙ ap (greeted reader writer now) (sym (cond-false (is_turn_of reader.caller writer.turn) writer.turn reader.turn none_back))
]

-- a beginning of a beginning
starts_within : (long middle short : List Entry) → StartsWith long middle → StartsWith middle short → StartsWith long short
starts_within long middle short first second =
    sym (take-take (length short) (length middle) long (starts_length middle short second)) ∙ ap (take (length short)) first ∙ second

-- a reader that was told what the writer has seen, looked, and told the writer what it has seen then
pub met : (reader writer now : View) (found : ℕ) (last : View) → now ≡ greeted_at reader writer → Sees now found last.seen → IsSettled now
    → LooksAt now.config last.seen found now.stage last.stage → last ≡ look_at now found last.seen last.stage → StartsWith writer.seen last.seen
    → Meets reader writer.seen (met_turn writer reader) last
met reader writer now found last is sees settled looks after heard =
    let greeting = greeted_is reader writer now is in
    let joined : StartsWith now.seen writer.seen = subst (StartsWith now.seen) (ap (λ (v : View). v.joined) greeting) settled.joined in
    let all : StartsWith last.seen writer.seen = starts_within last.seen now.seen writer.seen sees.later joined in
    let same : last.seen ≡ writer.seen = starts_same last.seen writer.seen all heard in (
      found,
      subst (λ (j : List Entry). found / 2 ≡ length j + 1) same sees.counted,
      subst (λ (j : List Entry). LooksAt reader.config j found reader.stage last.stage) same
          (subst (λ s. LooksAt reader.config last.seen found s last.stage) (ap (λ (v : View). v.stage) greeting)
          (subst (λ c. LooksAt c last.seen found now.stage last.stage) (ap (λ (v : View). v.config) greeting) looks)),
      after ∙ ap (λ (v : View). look_at v found last.seen last.stage) greeting
          ∙ ap (λ (j : List Entry). record (look_at reader found j last.stage) { turn = met_turn writer reader }) same,
    )
