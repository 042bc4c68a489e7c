-- The address space with one good item more.
use Rattle.std.proofs.Common.{ℕ, ◌≡◌, ◌+◌, ◌≤◌, ◌∙◌, sym, ap, cond, false, List, [], ◌∷◌, ◌++◌, arith, inl, inr}
use Rattle.std.proofs.lemmas.Bool.{cases_Bool, cond-true, cond-false}
use Rattle.std.proofs.lemmas.List.{append-nil}
use Rattle.mm_types.specs.declared.call.Entry.{Entry}
use Rattle.mm_types.specs.declared.config.Config.{Config}
use Rattle.area_rules.specs.Tables.{AddressSpace}
use Rattle.area_rules.specs.Steps.{after}
use Rattle.area_rules.proofs.Journals.{after-push}
use Rattle.history.specs.declared.items.Content.{Content}
use Rattle.history.specs.declared.items.Content.TheVariants as contents
use Rattle.history.specs.declared.items.Item.{Item}
use Rattle.history.specs.Histories.{journal_of, is_call, op_asked, space_by, answer_of, space_after}
use Rattle.history.proofs.Calls.{list_call, IsAnswer}
use Rattle.history.proofs.Placed.{journal_append}
use Rattle.history.proofs.Serial.{call_answer}
use Rattle.history.proofs.SerialOrder.{read_space}

step_on : (config : Config) (journal : List Entry) (caller version : ℕ) (content : Content) → IsAnswer config journal content
    → after config (journal ++ journal_of (record { caller = caller; version = version; content = content } ∷ []))
    ≡ space_after config (after config journal) (op_asked content)
unfolding journal_of
step_on config journal caller version (contents.Called call reply) right =
    after-push config journal (record { caller = caller; call = call; reply = reply }) ∙ ap (space_by config (after config journal)) (sym right.0)
step_on config journal caller version (contents.Fault page access verdict) right =
    ap (after config) (append-nil journal) ∙ ap (space_by config (after config journal)) (sym right.0)
step_on config journal caller version (contents.List areas) right =
    ap (after config) (append-nil journal) ∙ ap (space_by config (after config journal)) (sym (list_call config (after config journal)))

-- after the journal of the items with one more
pub space_more : (config : Config) (before : List Item) (item : Item) → IsAnswer config (journal_of before) item.content
    → after config (journal_of (before ++ item ∷ [])) ≡ space_after config (after config (journal_of before)) (op_asked item.content)
space_more config before item right =
    ap (after config) (journal_append before (item ∷ [])) ∙ step_on config (journal_of before) item.caller item.version item.content right

-- a right item that is no call leaves the address space as it is
read_same : (config : Config) (space : AddressSpace) (content : Content) → content ≡ answer_of config space (op_asked content)
    → is_call content ≡ false → space_after config space (op_asked content) ≡ space
read_same config space content right read =
    read_space config space (op_asked content) (sym (call_answer config space (op_asked content)) ∙ ap is_call (sym right) ∙ read)

-- a call numbers at most one object, and another item none
pub objects_more : (config : Config) (content : Content) (old new : AddressSpace) (files version : ℕ) → old.objects ≤ files + version
    → new.objects ≤ old.objects + 1 → content ≡ answer_of config old (op_asked content) → new ≡ space_after config old (op_asked content)
    → new.objects ≤ files + (version + cond (is_call content) 1 0)
objects_more config content old new files version few more right moved = elim (cases_Bool (is_call content)) [
  | inl call ↦ omega (arith, few, more, cond-true {A = ℕ} (is_call content) 1 0 call)
  | inr read ↦
      let same : new.objects ≡ old.objects = ap (λ (s : AddressSpace). s.objects) (moved ∙ read_same config old content right read) in
      omega (arith, few, same, cond-false {A = ℕ} (is_call content) 1 0 read)
]
