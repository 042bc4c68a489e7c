-- For `check`: what the walk over a history keeps from item to item, and what it shows of a bad item and of the end.
use Rattle.std.proofs.Common.{ℕ, ◌≡◌, ◌+◌, ◌-◌, ◌^◌, ◌<◌, ◌≤◌, ◌∙◌, refl, sym, ap, subst, cond, Bool, false, List, [], ◌∷◌, ◌++◌, append_assoc, length, get_or, set, take, slice_get, All, Option, Some, None, arith, inl, inr}
use Rattle.std.specs.Prelude.{IfSome, IsSomeAnd}
use Rattle.std.specs.List.{last_or}
use Rattle.std.proofs.lemmas.Bool.{cases_eq, cases_Bool, cond-true, cond-false}
use Rattle.std.proofs.lemmas.List.{append-nil, take_all, take_more}
use Rattle.std.proofs.lemmas.Option.{slice_get_within, get_or_from_slice_get, same_Some}
use Rattle.mm_types.specs.declared.call.Call.{Call}
use Rattle.mm_types.specs.declared.call.Entry.{Entry}
use Rattle.mm_types.specs.declared.config.Config.{Config}
use Rattle.trace_reader.specs.declared.trace.Op.{Op}
use Rattle.trace_reader.specs.declared.trace.Op.TheVariants as ops
use Rattle.trace_reader.specs.declared.trace.TraceLine.{TraceLine}
use Rattle.trace_reader.specs.Values.{AreNumbered}
use Rattle.area_rules.specs.Tables.{AddressSpace}
use Rattle.area_rules.specs.Steps.{step, opening, after}
use Rattle.area_rules.specs.Verdicts.{verdict}
use Rattle.area_rules.proofs.Journals.{after-nil, after-push}
use Rattle.plain_space.specs.Plain.{PlainView}
use Rattle.history.specs.declared.answers.Answer.{Answer}
use Rattle.history.specs.declared.answers.Answer.TheVariants as answers
use Rattle.history.specs.declared.answers.BadEntry.{BadEntry}
use Rattle.history.specs.declared.callers.TheConstants.{MOST_THREADS}
use Rattle.history.specs.declared.checking.Case.{Case}
use Rattle.history.specs.declared.checking.Walk.{Walk}
use Rattle.history.specs.declared.items.Content.{Content}
use Rattle.history.specs.declared.items.Content.TheVariants as contents
use Rattle.history.specs.declared.items.Item.{Item}
use Rattle.history.specs.Histories.{items_of, lines_of, line_answered, journal_of, is_call, read_as, asks_for, op_asked, call_made, answer_by, space_by, answer_of, space_after, StandsAmong, CanStand, IsMade, IsLegalHistory}
use Rattle.history.specs.Checking.{answer_in, answer_to, next_line, expected_of, IsGood, IsHistoryRefused}
use Rattle.history.specs.Coming.{lowest_after, IsProgress, HasNoneLeft}
use Rattle.history.specs.Internal.Walks.{space_after_line, IsNext, IsTold, IsLowestLeft, HasBegun, IsHistoryWalked}
use Rattle.history.proofs.Advances.{journal_within, left_within, left_fewer, lines_within, progress_more, progress_within}
use Rattle.history.proofs.Calls.{list_call, reads_answer, reads_space, IsAnswer, answer_right, is_answer}
use Rattle.history.proofs.Placed.{journal_append}
use Rattle.history.proofs.Serial.{call_answer, right_is_answer}
use Rattle.history.proofs.SerialOrder.{read_space}

step_on : (config : Config) (journal : List Entry) (caller version : ℕ) (content : Content) → IsAnswer config journal content
    → after config (journal ++ journal_of (record { caller = caller; version = version; content = content } ∷ []))
    ≡ space_after config (after config journal) (op_asked content)
unfolding journal_of
step_on config journal caller version (contents.Called call reply) right =
    after-push config journal (record { caller = caller; call = call; reply = reply }) ∙ ap (space_by config (after config journal)) (sym right.0)
step_on config journal caller version (contents.Fault page access verdict) right =
    ap (after config) (append-nil journal) ∙ ap (space_by config (after config journal)) (sym right.0)
step_on config journal caller version (contents.List areas) right =
    ap (after config) (append-nil journal) ∙ ap (space_by config (after config journal)) (sym (list_call config (after config journal)))

-- the address space with one such item more
space_more : (config : Config) (start : List Entry) (before : List Item) (item : Item) → IsAnswer config (start ++ journal_of before) item.content
    → after config (start ++ journal_of (before ++ item ∷ [])) ≡ space_after config (after config (start ++ journal_of before)) (op_asked item.content)
space_more config start before item right =
    ap (λ (j : List Entry). after config (start ++ j)) (journal_append before (item ∷ []))
    ∙ ap (after config) (sym (append_assoc start (journal_of before) (journal_of (item ∷ []))))
    ∙ step_on config (start ++ journal_of before) item.caller item.version item.content right

-- a content is the answer where it has the answer to what it was asked
right_from_answer : (config : Config) (journal : List Entry) (content : Content)
    → answer_in (answer_of config (after config journal) (op_asked content)) ≡ answer_in content → IsAnswer config journal content
right_from_answer config journal (contents.Called call reply) same =
    by_call (asks_for call) (call_made config (after config journal) (asks_for call)) refl same
  where
    by_call : (op : Op) (made : Option Call) → call_made config (after config journal) op ≡ made
        → answer_in (answer_by config (after config journal) op made) ≡ answers.Call call reply
        → (call_made config (after config journal) op ≡ Some call) × (reply ≡ (step config (after config journal) call).reply)
    by_call op (Some other) is same =
        let one : other ≡ call = cc in
        let due : (step config (after config journal) other).reply ≡ reply = cc in
        (is ∙ ap Some one, sym due ∙ ap (λ (c : Call). (step config (after config journal) c).reply) one)
    by_call (ops.Call other) None is same = absurd (cc)
    by_call (ops.Fault page access) None is same = absurd (cc)
    by_call ops.Maps None is same = absurd (cc)
    by_call (ops.Fork child) None is same = absurd (cc)
right_from_answer config journal (contents.Fault page access found) same =
    by_call (call_made config (after config journal) (ops.Fault page access)) refl same
  where
    by_call : (made : Option Call) → call_made config (after config journal) (ops.Fault page access) ≡ made
        → answer_in (answer_by config (after config journal) (ops.Fault page access) made) ≡ answers.Fault found
        → (call_made config (after config journal) (ops.Fault page access) ≡ None)
        × (found ≡ verdict config (after config journal).areas page.0 access)
    by_call (Some call) is same = absurd (cc)
    by_call None is same = (is, cc)
right_from_answer config journal (contents.List areas) same = by_call (call_made config (after config journal) ops.Maps) same
  where
    by_call : (made : Option Call) → answer_in (answer_by config (after config journal) ops.Maps made) ≡ answers.List areas
        → areas ≡ (after config journal).areas
    by_call (Some call) same = absurd (cc)
    by_call None same = cc

answer_from_right : (config : Config) (journal : List Entry) (content : Content) → IsAnswer config journal content
    → answer_in (answer_of config (after config journal) (op_asked content)) ≡ answer_in content
answer_from_right config journal content right = ap answer_in (sym (right_is_answer config journal (after config journal) content refl right))

order_from_lowest : (prior : Option Item) (item : Item) → (is_call item.content ≡ false → lowest_after prior ≤ item.caller)
    → IfSome prior (λ prior. is_call prior.content ≡ false → is_call item.content ≡ false → prior.caller ≤ item.caller)
order_from_lowest None item low = tt
order_from_lowest (Some prior) item low = λ read here.
    let is : cond (is_call prior.content) 0 prior.caller ≡ prior.caller = cond-false (is_call prior.content) 0 prior.caller read in
    omega (arith, is, low here)

lowest_from_order : (prior : Option Item) (item : Item)
    → IfSome prior (λ prior. is_call prior.content ≡ false → is_call item.content ≡ false → prior.caller ≤ item.caller)
    → is_call item.content ≡ false → lowest_after prior ≤ item.caller
lowest_from_order None item order here = omega arith
lowest_from_order (Some prior) item order here = elim (cases_Bool (is_call prior.content)) [
  | inl call ↦ omega (arith, cond-true (is_call prior.content) 0 prior.caller call)
  | inr read ↦ omega (arith, cond-false (is_call prior.content) 0 prior.caller read, order read here)
]

-- an item can stand where it is next, what it was asked to do makes it, and what its line names is answered
pub stands_from_next : (case : Case) (place : ℕ) (walk : Walk) (item : Item) (line : Option TraceLine) → IsHistoryWalked case place walk
    → line ≡ next_line case.lines.now (take place case.items.now) item.caller → IsNext walk.progress line item
    → IsMade walk.space.config walk.space.space item.content → IsTold case.lines.now (take place case.items.now) line
    → CanStand case.config.now case.start.now case.lines.now (take place case.items.now) item
unfolding line_answered
stands_from_next case place walk item line walked at next made told =
    let before : List Item = take place case.items.now in
    record {
      version = next.version ∙ ap (λ (n : ℕ). n + cond (is_call item.content) 1 0) walked.progress.version;
      order = order_from_lowest (last_or None before) item (λ read. omega (arith, walked.progress.lowest, next.order read));
      next = subst (λ (o : Option TraceLine). IsSomeAnd o (λ line. read_as line.op ≡ op_asked item.content)) at next.asked;
      made = subst (λ (s : AddressSpace). IsMade case.config.now s item.content) walked.space
          (subst (λ (c : Config). IsMade c walk.space.space item.content) walked.opened made);
      named = subst (λ (o : Option TraceLine). IfSome o (λ line. IfSome line.after (StandsAmong case.lines.now before))) at told;
    }

-- and only there
pub record AllNext (case : Case) (place : ℕ) (walk : Walk) (item : Item) (line : Option TraceLine) : Type 0 where
  pub next : IsNext walk.progress line item
  pub made : IsMade walk.space.config walk.space.space item.content
  pub told : IsTold case.lines.now (take place case.items.now) line

pub next_from_stands : (case : Case) (place : ℕ) (walk : Walk) (item : Item) (line : Option TraceLine) → IsHistoryWalked case place walk
    → line ≡ next_line case.lines.now (take place case.items.now) item.caller
    → CanStand case.config.now case.start.now case.lines.now (take place case.items.now) item → AllNext case place walk item line
unfolding line_answered
next_from_stands case place walk item line walked at stands =
    let before : List Item = take place case.items.now in
    record {
      next = record {
        version = stands.version ∙ ap (λ (n : ℕ). n + cond (is_call item.content) 1 0) (sym walked.progress.version);
        order = λ read. omega (arith, walked.progress.lowest, lowest_from_order (last_or None before) item stands.order read);
        asked = subst (λ (o : Option TraceLine). IsSomeAnd o (λ line. read_as line.op ≡ op_asked item.content)) (sym at) stands.next;
      };
      made = subst (λ (c : Config). IsMade c walk.space.space item.content) (sym walked.opened)
          (subst (λ (s : AddressSpace). IsMade case.config.now s item.content) (sym walked.space) stands.made);
      told = subst (λ (o : Option TraceLine). IfSome o (λ line. IfSome line.after (StandsAmong case.lines.now before))) (sym at) stands.named;
    }

-- an item that can stand answers a line
asks_line : (case : Case) (place : ℕ) (item : Item) (line : Option TraceLine) → line ≡ next_line case.lines.now (take place case.items.now) item.caller
    → CanStand case.config.now case.start.now case.lines.now (take place case.items.now) item
    → IsSomeAnd line (λ line. read_as line.op ≡ op_asked item.content)
unfolding line_answered
asks_line case place item line at stands =
    subst (λ (o : Option TraceLine). IsSomeAnd o (λ line. read_as line.op ≡ op_asked item.content)) (sym at) stands.next

-- the answer to its line is that to what it was asked
answer_asked : (config : Config) (space : AddressSpace) (content : Content) (line : Option TraceLine)
    → IsSomeAnd line (λ line. read_as line.op ≡ op_asked content) → answer_to config space line ≡ answer_in (answer_of config space (op_asked content))
answer_asked config space content None asked = absurd asked
answer_asked config space content (Some line) asked =
    ap answer_in (sym (reads_answer config space line.op) ∙ ap (answer_of config space) asked)

-- before the first item
pub walked_none : (case : Case) (walk : Walk) → IsProgress case.lines.now [] walk.progress → HasBegun case.config.now case.start.now walk.space
    → length case.config.now.files + length case.start.now + length case.lines.now < 2 ^ 32 - 1 → AreNumbered case.lines.now
    → All (λ line. line.thread < MOST_THREADS) case.lines.now → IsHistoryWalked case 0 walk
unfolding journal_of
walked_none case walk progress begun room numbered threads = record {
  progress = progress;
  opened = begun.opened;
  space = begun.space ∙ ap (after case.config.now) (sym (append-nil case.start.now));
  objects = omega (arith, begun.objects);
  room = room;
  numbered = numbered;
  threads = threads;
  good = λ earlier item below. absurd (omega arith);
}

-- there is room for one object more, and for one version more
pub walked_room : (case : Case) (place : ℕ) (walk : Walk) → IsHistoryWalked case place walk
    → (walk.space.space.objects < 2 ^ 32 - 1) × (walk.progress.version < 2 ^ 32)
walked_room case place walk walked =
    let before : List Item = take place case.items.now in
    let entries : length (journal_of before) ≤ length before = journal_within before in
    let few : length before ≤ length case.lines.now = progress_within case.lines.now before walk.progress walked.progress in (
      omega (arith, walked.objects, walked.room, walked.progress.version, entries, few),
      omega (arith, walked.room, walked.progress.version, entries, few),
    )

-- an item that can stand is of a caller that is counted, and whose count has room
pub counts_room : (case : Case) (place : ℕ) (walk : Walk) (item : Item) (line : Option TraceLine) → IsHistoryWalked case place walk
    → line ≡ next_line case.lines.now (take place case.items.now) item.caller
    → CanStand case.config.now case.start.now case.lines.now (take place case.items.now) item
    → (item.caller < length walk.progress.answered) × (get_or walk.progress.answered item.caller 0 < 2 ^ 32)
counts_room case place walk item line walked at stands = of_line line at (asks_line case place item line at stands)
  where
    of_line : (line : Option TraceLine) → line ≡ next_line case.lines.now (take place case.items.now) item.caller
        → IsSomeAnd line (λ line. read_as line.op ≡ op_asked item.content)
        → (item.caller < length walk.progress.answered) × (get_or walk.progress.answered item.caller 0 < 2 ^ 32)
    of_line None at asked = absurd asked
    of_line (Some line) at asked =
        let before : List Item = take place case.items.now in
        let within : item.caller < length walk.progress.answered =
        left_within case.lines.now before walk.progress item.caller line walked.progress (sym at) in (
          within,
          omega (
            arith,
            walked.progress.answered item.caller within,
            left_fewer case.lines.now before item.caller line (sym at),
            lines_within case.lines.now item.caller,
            walked.room,
          ),
        )

-- the answer to the next line is what the walk made
expected_here : (case : Case) (place caller : ℕ) (walk : Walk) (line : Option TraceLine) → IsHistoryWalked case place walk
    → line ≡ next_line case.lines.now (take place case.items.now) caller
    → answer_to walk.space.config walk.space.space line ≡ expected_of case.config.now case.start.now case.lines.now (take place case.items.now) caller
expected_here case place caller walk line walked at =
    ap (λ (c : Config). answer_to c walk.space.space line) walked.opened ∙ ap (λ (s : AddressSpace). answer_to case.config.now s line) walked.space
    ∙ ap (answer_to case.config.now (after case.config.now (case.start.now ++ journal_of (take place case.items.now)))) at

-- the answer to the line of an item that can stand, over the address space there
answer_here : (case : Case) (place : ℕ) (walk : Walk) (item : Item) (line : Option TraceLine) → IsHistoryWalked case place walk
    → line ≡ next_line case.lines.now (take place case.items.now) item.caller
    → CanStand case.config.now case.start.now case.lines.now (take place case.items.now) item
    → answer_to walk.space.config walk.space.space line
    ≡ answer_in (answer_of case.config.now (after case.config.now (case.start.now ++ journal_of (take place case.items.now))) (op_asked item.content))
answer_here case place walk item line walked at stands =
    ap (λ (c : Config). answer_to c walk.space.space line) walked.opened ∙ ap (λ (s : AddressSpace). answer_to case.config.now s line) walked.space
    ∙ answer_asked case.config.now (after case.config.now (case.start.now ++ journal_of (take place case.items.now))) item.content line
    (asks_line case place item line at stands)

-- a right item that is no call leaves the address space as it is
read_same : (config : Config) (space : AddressSpace) (content : Content) → content ≡ answer_of config space (op_asked content)
    → is_call content ≡ false → space_after config space (op_asked content) ≡ space
read_same config space content right read =
    read_space config space (op_asked content) (sym (call_answer config space (op_asked content)) ∙ ap is_call (sym right) ∙ read)

-- a call numbers at most one object, and another item none
objects_more : (config : Config) (content : Content) (old new : AddressSpace) (files version : ℕ) → old.objects ≤ files + version
    → new.objects ≤ old.objects + 1 → content ≡ answer_of config old (op_asked content) → new ≡ space_after config old (op_asked content)
    → new.objects ≤ files + (version + cond (is_call content) 1 0)
objects_more config content old new files version few more right moved = elim (cases_Bool (is_call content)) [
  | inl call ↦ omega (arith, few, more, cond-true {A = ℕ} (is_call content) 1 0 call)
  | inr read ↦
      let same : new.objects ≡ old.objects = ap (λ (s : AddressSpace). s.objects) (moved ∙ read_same config old content right read) in
      omega (arith, few, same, cond-false {A = ℕ} (is_call content) 1 0 read)
]

-- the address space after the line of an item is that after what it was asked
space_asked : (config : Config) (space : AddressSpace) (content : Content) (line : Option TraceLine)
    → IsSomeAnd line (λ line. read_as line.op ≡ op_asked content) → space_after_line config space line ≡ space_after config space (op_asked content)
space_asked config space content None asked = absurd asked
space_asked config space content (Some line) asked = sym (reads_space config space line.op) ∙ ap (space_after config space) asked

line_asked : (content : Content) (line : Option TraceLine) → IsSomeAnd line (λ line. read_as line.op ≡ op_asked content)
    → (found : TraceLine) × (line ≡ Some found)
line_asked content None asked = absurd asked
line_asked content (Some line) asked = (line, refl)

-- after a good item
pub walked_more : (case : Case) (place : ℕ) (old new : Walk) (item : Item) (line : Option TraceLine) (answer : Answer)
    → IsHistoryWalked case place old → slice_get case.items.now place ≡ Some item → line ≡ next_line case.lines.now (take place case.items.now) item.caller
    → CanStand case.config.now case.start.now case.lines.now (take place case.items.now) item
    → answer ≡ answer_to old.space.config old.space.space line → answer ≡ answer_in item.content
    → new.space.space ≡ space_after_line old.space.config old.space.space line → new.space.config ≡ old.space.config
    → new.space.space.objects ≤ old.space.space.objects + 1
    → new.progress.answered ≡ set old.progress.answered item.caller (get_or old.progress.answered item.caller 0 + 1)
    → new.progress.lines ≡ old.progress.lines → (called : Bool) → called ≡ is_call item.content
    → new.progress.version ≡ old.progress.version + cond called 1 0 → new.progress.lowest ≡ cond called 0 item.caller
    → IsHistoryWalked case (place + 1) new
walked_more case place old new item line answer walked found at stands made given stepped kept few pushed same called is counts reads =
    let config : Config = case.config.now in
    let start : List Entry = case.start.now in
    let lines : List TraceLine = case.lines.now in
    let items : List Item = case.items.now in
    let before : List Item = take place items in
    let here : AddressSpace = after config (start ++ journal_of before) in
    let asked : IsSomeAnd line (λ line. read_as line.op ≡ op_asked item.content) = asks_line case place item line at stands in
    let its : (found : TraceLine) × (line ≡ Some found) = line_asked item.content line asked in
    let within : place < length items = slice_get_within items place item found in
    let more : take (place + 1) items ≡ before ++ item ∷ [] =
    take_more items place item within ∙ ap (λ (x : Item). before ++ x ∷ []) (get_or_from_slice_get items place item item found) in
    let moved : new.space.space ≡ space_after config here (op_asked item.content) =
    stepped ∙ ap (λ (c : Config). space_after_line c old.space.space line) walked.opened
    ∙ ap (λ (s : AddressSpace). space_after_line config s line) walked.space ∙ space_asked config here item.content line asked in
    let right : IsAnswer config (start ++ journal_of before) item.content =
    right_from_answer config (start ++ journal_of before) item.content
    (sym (answer_here case place old item line walked at stands) ∙ sym made ∙ given) in
    let counted : new.progress.version ≡ old.progress.version + cond (is_call item.content) 1 0 =
    counts ∙ ap (λ (b : Bool). old.progress.version + cond b 1 0) is in
    let lowest : new.progress.lowest ≡ cond (is_call item.content) 0 item.caller = reads ∙ ap (λ (b : Bool). cond b 0 item.caller) is in
    let good : IsGood config start lines before item = record {
      stands = stands;
      right = answer_right config (start ++ journal_of before) item.content right;
    } in
    record {
      progress = subst (λ (l : List Item). IsProgress lines l new.progress) (sym more)
          (progress_more lines before item its.0 old.progress new.progress walked.progress (sym at ∙ its.1) same pushed counted lowest);
      opened = kept ∙ walked.opened;
      space = moved ∙ sym (space_more config start before item right) ∙ ap (λ (l : List Item). after config (start ++ journal_of l)) (sym more);
      objects = subst (λ (n : ℕ). new.space.space.objects ≤ length config.files + length start + n) (sym counted)
          (objects_more config item.content old.space.space new.space.space (length config.files + length start) old.progress.version walked.objects few
          (right_is_answer config (start ++ journal_of before) old.space.space item.content (sym walked.space) right)
          (moved ∙ ap (λ (s : AddressSpace). space_after config s (op_asked item.content)) (sym walked.space)));
      room = walked.room;
      numbered = walked.numbered;
      threads = walked.threads;
      good = λ earlier other below there. elim (cases_eq earlier place) [
        | inl level ↦
            let is : item ≡ other = same_Some item other (sym found ∙ ap (slice_get items) (sym level) ∙ there) in
            subst (λ (x : Item). IsGood config start lines (take earlier items) x) is
            (subst (λ (k : ℕ). IsGood config start lines (take k items) item) (sym level) good)
        | inr apart ↦ walked.good earlier other (omega arith) there
      ];
    }

-- an item that can stand and is not right
pub refused_wrong : (case : Case) (place : ℕ) (walk : Walk) (item : Item) (line : Option TraceLine) (answer : Answer) (bad : BadEntry)
    → IsHistoryWalked case place walk → slice_get case.items.now place ≡ Some item
    → line ≡ next_line case.lines.now (take place case.items.now) item.caller
    → CanStand case.config.now case.start.now case.lines.now (take place case.items.now) item
    → answer ≡ answer_to walk.space.config walk.space.space line → (answer ≡ answer_in item.content → ⊥)
    → bad.place ≡ place + 1 → bad.expected ≡ answer → bad.found ≡ answer_in item.content
    → IsHistoryRefused case.config.now case.start.now case.lines.now case.items.now bad
refused_wrong case place walk item line answer bad walked found at stands made never stood is said =
    let journal : List Entry = case.start.now ++ journal_of (take place case.items.now) in
    record {
      place = place;
      counted = stood;
      before = walked.good;
      cause = inr (inl (record {
        item = item;
        here = found;
        stands = stands;
        wrong = λ right. never (made ∙ answer_here case place walk item line walked at stands
            ∙ answer_from_right case.config.now journal item.content (is_answer case.config.now journal item.content stands.made right));
        expected = is ∙ made ∙ expected_here case place item.caller walk line walked at;
        found = said;
        differs = λ same. never (sym is ∙ same ∙ said);
      }));
    }

-- at the end, where no line is left
pub ends_legal : (case : Case) (walk : Walk) → IsHistoryWalked case (length case.items.now) walk
    → HasNoneLeft case.lines.now (take (length case.items.now) case.items.now)
    → IsLegalHistory case.config.now case.start.now case.lines.now case.items.now
ends_legal case walk walked none =
    let items : List Item = case.items.now in
    record {
      stands = λ place item found. (walked.good place item (slice_get_within items place item found) found).stands;
      right = λ place item found. (walked.good place item (slice_get_within items place item found) found).right;
      none_left = λ caller. ap (λ (l : List Item). length (items_of l caller)) (sym (take_all (length items) items (omega arith))) ∙ none caller;
    }

-- and where one is
pub ends_early : (case : Case) (walk : Walk) (caller : ℕ) (line : Option TraceLine) (answer : Answer) (bad : BadEntry)
    → IsHistoryWalked case (length case.items.now) walk → IsLowestLeft case.lines.now (take (length case.items.now) case.items.now) caller
    → line ≡ next_line case.lines.now (take (length case.items.now) case.items.now) caller
    → answer ≡ answer_to walk.space.config walk.space.space line
    → bad.place ≡ length case.items.now + 1 → bad.expected ≡ answer → bad.found ≡ answers.Nothing
    → IsHistoryRefused case.config.now case.start.now case.lines.now case.items.now bad
ends_early case walk caller line answer bad walked left at made stood is said =
    let lines : List TraceLine = case.lines.now in
    let items : List Item = case.items.now in
    let whole : take (length items) items ≡ items = take_all (length items) items (omega arith) in
    record {
      place = length items;
      counted = stood;
      before = walked.good;
      cause = inr (inr (record {
        caller = caller;
        ended = refl;
        left = subst (λ (l : List Item). length (items_of l caller) < length (lines_of lines caller)) whole left.left;
        lowest = λ lower below. ap (λ (l : List Item). length (items_of l lower)) (sym whole) ∙ left.lowest lower below;
        expected = is ∙ made ∙ expected_here case (length items) caller walk line walked at
            ∙ ap (λ (l : List Item). expected_of case.config.now case.start.now lines l caller) whole;
        found = said;
      }));
    }

-- a refused history is not legal
pub refused_legal : (config : Config) (start : List Entry) (lines : List TraceLine) (items : List Item) (bad : BadEntry)
    → IsHistoryRefused config start lines items bad → IsLegalHistory config start lines items → ⊥
refused_legal config start lines items bad refused legal = elim refused.cause [
  | inl out ↦ out.refused (legal.stands refused.place out.item out.here)
  | inr other ↦ elim other [
    | inl wrong ↦ wrong.wrong (legal.right refused.place wrong.item wrong.here)
    | inr early ↦ let same = legal.none_left early.caller in let left = early.left in absurd (omega arith)
  ]
]

-- an address space after one more of the entries that it begins with
pub record BegunSoFar (config : Config) (start : List Entry) (count : ℕ) (begun : PlainView) : Type 0 where
  pub opened : begun.config ≡ config
  pub space : begun.space ≡ after config (take count start)
  pub objects : begun.space.objects ≤ length config.files + count

pub begun_none : (config : Config) (start : List Entry) (space : PlainView) → space ≡ record { config = config; space = opening config }
    → BegunSoFar config start 0 space
unfolding opening
begun_none config start space is = record {
  opened = ap (λ (v : PlainView). v.config) is;
  space = ap (λ (v : PlainView). v.space) is ∙ sym (after-nil config);
  objects = let same : space.space.objects ≡ length config.files = ap (λ (v : PlainView). v.space.objects) is in omega arith;
}

pub begun_more : (config : Config) (start : List Entry) (count : ℕ) (old new : PlainView) (d : Entry) → BegunSoFar config start count old
    → count < length start → new.config ≡ old.config → new.space ≡ (step old.config old.space (get_or start count d).call).space
    → new.space.objects ≤ old.space.objects + 1 → BegunSoFar config start (count + 1) new
begun_more config start count old new d begun within kept stepped few =
    let entry : Entry = get_or start count d in
    record {
      opened = kept ∙ begun.opened;
      space = stepped ∙ ap (λ (c : Config). (step c old.space entry.call).space) begun.opened
          ∙ ap (λ (s : AddressSpace). (step config s entry.call).space) begun.space ∙ sym (after-push config (take count start) entry)
          ∙ ap (after config) (sym (take_more start count d within));
      objects = omega (arith, few, begun.objects);
    }
