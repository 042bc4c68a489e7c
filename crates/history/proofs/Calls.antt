-- All that is used of `call_made` and `asks_for`, which nothing else unfolds but the code that computes them.
use Rattle.std.proofs.Common.{ℕ, ◌≡◌, ◌∙◌, refl, sym, ap, subst, cond, Bool, true, false, List, All, Option, Some, None, inl, inr}
use Rattle.std.proofs.lemmas.Bool.{cases_Bool, cond-true, cond-false}
use Rattle.std.proofs.lemmas.List.Elements.{All-weaker}
use Rattle.mm_types.specs.declared.area.Access.{Access}
use Rattle.mm_types.specs.declared.area.Page.{Page}
use Rattle.mm_types.specs.declared.area.Verdict.{Verdict}
use Rattle.mm_types.specs.declared.call.Call.{Call}
use Rattle.mm_types.specs.declared.call.Call.TheVariants.{Mmap, Munmap, Mprotect, Mremap, Touch, Brk, Mseal}
use Rattle.mm_types.specs.declared.call.Entry.{Entry}
use Rattle.mm_types.specs.declared.call.Errno.TheVariants.{Efault}
use Rattle.mm_types.specs.declared.call.Reply.{Reply}
use Rattle.mm_types.specs.declared.call.Reply.TheVariants.{Refused}
use Rattle.mm_types.specs.declared.call.Seen.TheVariants as reads
use Rattle.mm_types.specs.declared.config.Config.{Config}
use Rattle.trace_reader.specs.declared.trace.Op.{Op}
use Rattle.trace_reader.specs.declared.trace.Op.TheVariants as ops
use Rattle.trace_reader.specs.declared.trace.TraceLine.{TraceLine}
use Rattle.trace_reader.specs.Values.{IsOpValue, IsLineValue}
use Rattle.area_rules.specs.Growing.{grows, grower, grown, touch}
use Rattle.area_rules.specs.Tables.{AddressSpace, Outcome}
use Rattle.area_rules.specs.Steps.{step, after}
use Rattle.area_rules.specs.Journals.{IsReadAfter}
use Rattle.area_rules.specs.Verdicts.{verdict}
use Rattle.area_rules.proofs.Touching.{step-touch}
use Rattle.history.specs.declared.items.Content.{Content}
use Rattle.history.specs.declared.items.Content.TheVariants as contents
use Rattle.history.specs.Histories.{read_as, asks_for, AsksItself, AskThemselves, call_made, IsMade, IsRight, answer_by, space_by, version_by, answer_of, space_after, version_after}
use Rattle.history.specs.Runs.{HasGrown}

-- what makes a call is what asks for it
fault_asked : (page : Page) (access : Access) (grow : Bool) (call : Call) → cond grow (Some (Touch page access)) None ≡ Some call
    → ops.Fault page access ≡ asks_for call
unfolding asks_for
fault_asked page access true call is = let same : Touch page access ≡ call = cc in ap asks_for same
fault_asked page access false call is = absurd (cc)

pub call_asked : (config : Config) (space : AddressSpace) (op : Op) (call : Call) → AsksItself op → call_made config space op ≡ Some call
    → op ≡ asks_for call
unfolding call_made
call_asked config space (ops.Call made) call itself is =
    let same : made ≡ call = cc in sym itself ∙ ap asks_for same
call_asked config space (ops.Fault page access) call itself is = fault_asked page access (grows config space.areas page.0 access) call is
call_asked config space ops.Maps call itself is = absurd (cc)
call_asked config space (ops.Fork child) call itself is = absurd (cc)

-- the line of a call makes it
pub line_call : (config : Config) (space : AddressSpace) (call : Call) → call_made config space (ops.Call call) ≡ Some call
unfolding call_made
line_call config space call = refl

-- the list makes none
pub list_call : (config : Config) (space : AddressSpace) → call_made config space ops.Maps ≡ None
unfolding call_made
list_call config space = refl

-- a fault that does not grow makes none
pub still_call : (config : Config) (space : AddressSpace) (page : Page) (access : Access) → grows config space.areas page.0 access ≡ false
    → call_made config space (ops.Fault page access) ≡ None
unfolding call_made
still_call config space page access still = cond-false (grows config space.areas page.0 access) (Some (Touch page access)) None still

-- and one that makes none does not grow
pub call_still : (config : Config) (space : AddressSpace) (page : Page) (access : Access) → call_made config space (ops.Fault page access) ≡ None
    → grows config space.areas page.0 access ≡ false
unfolding call_made
call_still config space page access none = elim (cases_Bool (grows config space.areas page.0 access)) [
  | inl grow ↦
      let some : Some (Touch page access) ≡ None = sym (cond-true (grows config space.areas page.0 access) (Some (Touch page access)) None grow)
      ∙ none in absurd (cc)
  | inr still ↦ still
]

-- a fault that is a right read makes none
pub fault_call : (config : Config) (journal : List Entry) (version : ℕ) (page : Page) (access : Access) (found : Verdict)
    → IsReadAfter config journal (reads.Fault version page access found) → call_made config (after config journal) (ops.Fault page access) ≡ None
fault_call config journal version page access found right = still_call config (after config journal) page access right.0

-- what asks for a call makes no child
pub asked_reads : (call : Call) → read_as (asks_for call) ≡ asks_for call
unfolding asks_for
asked_reads (Mmap args) = refl
asked_reads (Munmap addr len) = refl
asked_reads (Mprotect addr len prot) = refl
asked_reads (Mremap old old_len new_len flags new) = refl
asked_reads (Touch page access) = refl
asked_reads (Brk addr) = refl
asked_reads (Mseal addr len flags) = refl

-- an operation that makes a child does what a read of the list does
reads_call : (config : Config) (space : AddressSpace) (op : Op) → call_made config space (read_as op) ≡ call_made config space op
unfolding call_made
reads_call config space (ops.Call call) = refl
reads_call config space (ops.Fault page access) = refl
reads_call config space ops.Maps = refl
reads_call config space (ops.Fork child) = refl

pub reads_answer : (config : Config) (space : AddressSpace) (op : Op) → answer_of config space (read_as op) ≡ answer_of config space op
reads_answer config space op = ap (answer_by config space (read_as op)) (reads_call config space op) ∙ same_read op (call_made config space op)
  where
    same_read : (op : Op) (made : Option Call) → answer_by config space (read_as op) made ≡ answer_by config space op made
    same_read op (Some call) = refl
    same_read (ops.Call call) None = refl
    same_read (ops.Fault page access) None = refl
    same_read ops.Maps None = refl
    same_read (ops.Fork child) None = refl

pub reads_space : (config : Config) (space : AddressSpace) (op : Op) → space_after config space (read_as op) ≡ space_after config space op
reads_space config space op = ap (space_by config space) (reads_call config space op)

pub reads_version : (config : Config) (space : AddressSpace) (version : ℕ) (op : Op)
    → version_after config space version (read_as op) ≡ version_after config space version op
reads_version config space version op = ap (version_by version) (reads_call config space op)

-- A content is the answer of an address space: what it was asked to do makes its call there, and it has the step's reply; or makes none, and
-- it is the verdict or the list.
abbrev pub IsAnswer : Config → List Entry → Content → Type 0
IsAnswer config journal (contents.Called call reply) = (call_made config (after config journal) (asks_for call) ≡ Some call)
    × (reply ≡ (step config (after config journal) call).reply)
IsAnswer config journal (contents.Fault page access found) = (call_made config (after config journal) (ops.Fault page access) ≡ None)
    × (found ≡ verdict config (after config journal).areas page.0 access)
IsAnswer config journal (contents.List areas) = areas ≡ (after config journal).areas

pub answer_made : (config : Config) (journal : List Entry) (content : Content) → IsAnswer config journal content
    → IsMade config (after config journal) content
answer_made config journal (contents.Called call reply) is = is.0
answer_made config journal (contents.Fault page access found) is = tt
answer_made config journal (contents.List areas) is = tt

pub answer_right : (config : Config) (journal : List Entry) (content : Content) → IsAnswer config journal content → IsRight config journal content
answer_right config journal (contents.Called call reply) is = is.1
answer_right config journal (contents.Fault page access found) is = (call_still config (after config journal) page access is.0, is.1)
answer_right config journal (contents.List areas) is = is

pub is_answer : (config : Config) (journal : List Entry) (content : Content) → IsMade config (after config journal) content
    → IsRight config journal content → IsAnswer config journal content
is_answer config journal (contents.Called call reply) made right = (made, right)
is_answer config journal (contents.Fault page access found) made right = (still_call config (after config journal) page access right.0, right.1)
is_answer config journal (contents.List areas) made right = right

-- the lines of a trace ask for the calls that they name
pub op_asks : (op : Op) → IsOpValue op → AsksItself op
unfolding asks_for
op_asks (ops.Call (Mmap args)) value = refl
op_asks (ops.Call (Munmap addr len)) value = refl
op_asks (ops.Call (Mprotect addr len prot)) value = refl
op_asks (ops.Call (Mremap old old_len new_len flags new)) value = refl
op_asks (ops.Call (Touch page access)) value = absurd value
op_asks (ops.Call (Brk addr)) value = refl
op_asks (ops.Call (Mseal addr len flags)) value = refl
op_asks (ops.Fault page access) value = tt
op_asks ops.Maps value = tt
op_asks (ops.Fork child) value = tt

pub values_ask : (lines : List TraceLine) → All IsLineValue lines → AskThemselves lines
values_ask lines all = All-weaker IsLineValue (λ (line : TraceLine). AsksItself line.op) (λ line value. op_asks line.op value.op) lines all

-- what asks for a call makes it, where it is no touch or one that grew
touched : (config : Config) (space : AddressSpace) (page : Page) (access : Access) (reply : Reply) (caller : ℕ)
    → reply ≡ (step config space (Touch page access)).reply
    → HasGrown (record { caller = caller; call = Touch page access; reply = reply })
    → call_made config space (ops.Fault page access) ≡ Some (Touch page access)
unfolding call_made touch
touched config space page access reply caller is grew = elim (cases_Bool (grows config space.areas page.0 access)) [
  | inl grow ↦ cond-true (grows config space.areas page.0 access) (Some (Touch page access)) None grow
  | inr still ↦
      let refused : reply ≡ Refused Efault =
      is ∙ ap (λ (o : Outcome). o.reply) (step-touch config space page access)
      ∙ ap (λ (t : Bool). (cond t (grown space page.0 (grower config space.areas page.0)) (record { space = space; reply = Refused Efault })).reply) still in
      absurd (subst (λ (r : Reply). HasGrown (record { caller = caller; call = Touch page access; reply = r })) refused grew)
]

pub entry_made : (config : Config) (space : AddressSpace) (caller : ℕ) (call : Call) (reply : Reply) → reply ≡ (step config space call).reply
    → HasGrown (record { caller = caller; call = call; reply = reply }) → call_made config space (asks_for call) ≡ Some call
unfolding asks_for
entry_made config space caller (Mmap args) reply is grew = line_call config space (Mmap args)
entry_made config space caller (Munmap addr len) reply is grew = line_call config space (Munmap addr len)
entry_made config space caller (Mprotect addr len prot) reply is grew = line_call config space (Mprotect addr len prot)
entry_made config space caller (Mremap old old_len new_len flags new) reply is grew = line_call config space (Mremap old old_len new_len flags new)
entry_made config space caller (Touch page access) reply is grew = touched config space page access reply caller is grew
entry_made config space caller (Brk addr) reply is grew = line_call config space (Brk addr)
entry_made config space caller (Mseal addr len flags) reply is grew = line_call config space (Mseal addr len flags)
