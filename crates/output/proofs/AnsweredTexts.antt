-- The item of a line that can come next: it is good, and it is the only one of that line.
use Rattle.std.proofs.Common.{ℕ, ◌≡◌, ◌+◌, ◌≤◌, ◌∙◌, refl, sym, ap, subst, cond, false, List, [], length, Option, Some, None, arith, inl, inr}
use Rattle.std.specs.Prelude.{IfSome, IsSomeAnd}
use Rattle.std.specs.List.{last_or}
use Rattle.std.proofs.lemmas.Bool.{cases_Bool, cond-true, cond-false}
use Rattle.mm_types.specs.declared.call.Call.{Call}
use Rattle.mm_types.specs.declared.call.Entry.{Entry}
use Rattle.mm_types.specs.declared.config.Config.{Config}
use Rattle.trace_reader.specs.declared.trace.Op.{Op}
use Rattle.trace_reader.specs.declared.trace.Op.TheVariants as ops
use Rattle.trace_reader.specs.declared.trace.TraceLine.{TraceLine}
use Rattle.trace_reader.specs.Values.{AreNumbered}
use Rattle.area_rules.specs.Tables.{AddressSpace}
use Rattle.area_rules.specs.Steps.{after}
use Rattle.history.specs.declared.items.Content.{Content}
use Rattle.history.specs.declared.items.Item.{Item}
use Rattle.history.specs.Histories.{caller_of, items_of, line_answered, journal_of, is_call, read_as, op_asked, AsksItself, call_made, answer_by, answer_of, StandsAmong}
use Rattle.history.specs.Checking.{next_line, IsGood}
use Rattle.history.specs.Coming.{lowest_after}
use Rattle.history.proofs.Calls.{call_asked, line_call, asked_reads, reads_answer, IsAnswer, answer_made, answer_right, is_answer}
use Rattle.history.proofs.Numbers.{one_line, own_place}
use Rattle.history.proofs.Serial.{right_is_answer}

-- what the answer of a line was asked is what the line asks
pub asked : (config : Config) (space : AddressSpace) (op : Op) → AsksItself op → read_as op ≡ op_asked (answer_of config space op)
asked config space op itself = by_call op (call_made config space op) itself refl
  where
    by_call : (op : Op) (made : Option Call) → AsksItself op → call_made config space op ≡ made
        → read_as op ≡ op_asked (answer_by config space op made)
    by_call op (Some call) itself is = ap read_as (call_asked config space op call itself is) ∙ asked_reads call
    by_call (ops.Call call) None itself is = let makes : Some call ≡ None = sym (line_call config space call) ∙ is in absurd (cc)
    by_call (ops.Fault page access) None itself is = refl
    by_call ops.Maps None itself is = refl
    by_call (ops.Fork child) None itself is = refl

-- the answer of a line is right after the journal that leads there
pub line_answer : (config : Config) (journal : List Entry) (op : Op) → AsksItself op
    → IsAnswer config journal (answer_of config (after config journal) op)
line_answer config journal op itself = by_call op (call_made config (after config journal) op) itself refl
  where
    by_call : (op : Op) (made : Option Call) → AsksItself op → call_made config (after config journal) op ≡ made
        → IsAnswer config journal (answer_by config (after config journal) op made)
    by_call op (Some call) itself is =
        (ap (call_made config (after config journal)) (sym (call_asked config (after config journal) op call itself is)) ∙ is, refl)
    by_call (ops.Call call) None itself is = refl
    by_call (ops.Fault page access) None itself is = (is, refl)
    by_call ops.Maps None itself is = refl
    by_call (ops.Fork child) None itself is = refl

order_from_lowest : (prior : Option Item) (item : Item) → (is_call item.content ≡ false → lowest_after prior ≤ item.caller)
    → IfSome prior (λ prior. is_call prior.content ≡ false → is_call item.content ≡ false → prior.caller ≤ item.caller)
order_from_lowest None item low = tt
order_from_lowest (Some prior) item low = λ read here.
    let is : cond (is_call prior.content) 0 prior.caller ≡ prior.caller = cond-false (is_call prior.content) 0 prior.caller read in
    omega (arith, is, low here)

pub lowest_from_order : (prior : Option Item) (item : Item)
    → IfSome prior (λ prior. is_call prior.content ≡ false → is_call item.content ≡ false → prior.caller ≤ item.caller)
    → is_call item.content ≡ false → lowest_after prior ≤ item.caller
lowest_from_order None item order here = omega arith
lowest_from_order (Some prior) item order here = elim (cases_Bool (is_call prior.content)) [
  | inl call ↦ omega (arith, cond-true (is_call prior.content) 0 prior.caller call)
  | inr read ↦ omega (arith, cond-false (is_call prior.content) 0 prior.caller read, order read here)
]

-- the item of the next line of a caller
pub record IsItemOf (config : Config) (lines : List TraceLine) (before : List Item) (line : TraceLine) (item : Item) : Type 0 where
  pub next : next_line lines before item.caller ≡ Some line
  pub told : IfSome line.after (StandsAmong lines before)
  pub asks : AsksItself line.op
  pub answer : item.content ≡ answer_of config (after config (journal_of before)) line.op
  pub version : item.version ≡ length (journal_of before) + cond (is_call item.content) 1 0
  pub order : is_call item.content ≡ false → lowest_after (last_or None before) ≤ item.caller

pub answers_it : (config : Config) (lines : List TraceLine) (before : List Item) (line : TraceLine) (item : Item)
    → IsItemOf config lines before line item → line_answered lines before item ≡ Some line
unfolding line_answered
answers_it config lines before line item is = is.next

pub item_answer : (config : Config) (lines : List TraceLine) (before : List Item) (line : TraceLine) (item : Item)
    → IsItemOf config lines before line item → IsAnswer config (journal_of before) item.content
item_answer config lines before line item is =
    subst (IsAnswer config (journal_of before)) (sym is.answer) (line_answer config (journal_of before) line.op is.asks)

-- it is good
pub item_good : (config : Config) (lines : List TraceLine) (before : List Item) (line : TraceLine) (item : Item)
    → IsItemOf config lines before line item → IsGood config [] lines before item
item_good config lines before line item is =
    let there : Some line ≡ line_answered lines before item = sym (answers_it config lines before line item is) in
    let right : IsAnswer config (journal_of before) item.content = item_answer config lines before line item is in
    let asks : read_as line.op ≡ op_asked item.content =
    asked config (after config (journal_of before)) line.op is.asks ∙ ap op_asked (sym is.answer) in
    record {
      stands = record {
        version = is.version;
        order = order_from_lowest (last_or None before) item is.order;
        next = subst (λ (o : Option TraceLine). IsSomeAnd o (λ line. read_as line.op ≡ op_asked item.content)) there asks;
        made = answer_made config (journal_of before) item.content right;
        named = subst (λ (o : Option TraceLine). IfSome o (λ line. IfSome line.after (StandsAmong lines before))) there is.told;
      };
      right = answer_right config (journal_of before) item.content right;
    }

-- what is there, where something is
pub there : {X : Type 0} (found : Option X) (P : X → Type 0) → IsSomeAnd found P → (x : X) × (found ≡ Some x)
there (Some x) P holds = (x, refl)
there None P holds = absurd holds

-- what a good item answers
pub good_line : (config : Config) (lines : List TraceLine) (before : List Item) (item : Item) → IsGood config [] lines before item
    → (line : TraceLine) × (line_answered lines before item ≡ Some line)
good_line config lines before item good = there (line_answered lines before item) (λ line. read_as line.op ≡ op_asked item.content) good.stands.next

-- a good item has the answer of its line, its version, and a caller that may come
pub record Known (config : Config) (lines : List TraceLine) (before : List Item) (line : TraceLine) (item : Item) : Type 0 where
  pub next : next_line lines before item.caller ≡ Some line
  pub owned : item.caller ≡ caller_of lines line.thread
  pub told : IfSome line.after (StandsAmong lines before)
  pub answer : item.content ≡ answer_of config (after config (journal_of before)) line.op
  pub version : item.version ≡ length (journal_of before) + cond (is_call item.content) 1 0
  pub order : is_call item.content ≡ false → lowest_after (last_or None before) ≤ item.caller

pub good_known : (config : Config) (lines : List TraceLine) (before : List Item) (line : TraceLine) (item : Item)
    → IsGood config [] lines before item → line_answered lines before item ≡ Some line → Known config lines before line item
unfolding line_answered
good_known config lines before line item good answers =
    let right : IsAnswer config (journal_of before) item.content =
    is_answer config (journal_of before) item.content good.stands.made good.right in
    let asks : read_as line.op ≡ op_asked item.content =
    subst (λ (o : Option TraceLine). IsSomeAnd o (λ line. read_as line.op ≡ op_asked item.content)) answers good.stands.next in
    let space : AddressSpace = after config (journal_of before) in
    record {
      next = answers;
      owned = sym (own_place lines item.caller (length (items_of before item.caller)) line answers).2;
      told = subst (λ (o : Option TraceLine). IfSome o (λ line. IfSome line.after (StandsAmong lines before))) answers good.stands.named;
      answer = right_is_answer config (journal_of before) space item.content refl right
          ∙ ap (answer_of config space) (sym asks) ∙ reads_answer config space line.op;
      version = good.stands.version;
      order = lowest_from_order (last_or None before) item good.stands.order;
    }

-- two lines with one number are one
pub same_line : (lines : List TraceLine) (before : List Item) (a b : TraceLine) (first second : ℕ) → AreNumbered lines
    → next_line lines before first ≡ Some a → next_line lines before second ≡ Some b → a.number ≡ b.number → a ≡ b
same_line lines before a b first second numbered one two same =
    let here = own_place lines first (length (items_of before first)) a one in
    let there = own_place lines second (length (items_of before second)) b two in
    one_line lines numbered here.0 there.0 a b here.1 there.1 same

-- an item is known by its line
pub same_item : (config : Config) (lines : List TraceLine) (before : List Item) (line : TraceLine) (item other : Item)
    → Known config lines before line item → Known config lines before line other → other ≡ item
same_item config lines before line item other one two =
    let caller : other.caller ≡ item.caller = two.owned ∙ sym one.owned in
    let content : other.content ≡ item.content = two.answer ∙ sym one.answer in
    let version : other.version ≡ item.version =
    two.version ∙ ap (λ (c : Content). length (journal_of before) + cond (is_call c) 1 0) content ∙ sym one.version in
    let make : ℕ → ℕ → Content → Item = λ caller version content. record { caller = caller; version = version; content = content } in
    ap (λ (n : ℕ). make n other.version other.content) caller ∙ ap (λ (n : ℕ). make item.caller n other.content) version
    ∙ ap (λ (c : Content). make item.caller item.version c) content
