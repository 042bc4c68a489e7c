-- For `children_of_equal_spaces_answer_alike`: each item of a child's history is determined by its lines, the space at the fork and the items
-- before.
use Rattle.std.proofs.Common.{ℕ, zero, suc, ◌≡◌, ◌+◌, ◌<◌, ◌≤◌, ◌∙◌, refl, sym, ap, subst, cond, Bool, true, false, nat_eq, List, [], ◌∷◌, ◌++◌, length, get_or, take, slice_get, filter, All, Option, Some, None, arith}
use Rattle.std.specs.Prelude.{IsSomeAnd}
use Rattle.std.proofs.lemmas.Bool.{cond-true, eqb-true, eq-eqb}
use Rattle.std.proofs.lemmas.List.{take_all, take_more_same}
use Rattle.std.proofs.lemmas.Option.{slice_get_within, get_or_from_slice_get}
use Rattle.mm_types.specs.declared.call.Entry.{Entry}
use Rattle.mm_types.specs.declared.config.Config.{Config}
use Rattle.trace_reader.specs.declared.trace.TraceLine.{TraceLine}
use Rattle.area_rules.specs.Tables.{AddressSpace}
use Rattle.area_rules.specs.Steps.{after}
use Rattle.history.specs.declared.items.Content.{Content}
use Rattle.history.specs.declared.items.Item.{Item}
use Rattle.history.specs.Histories.{caller_of, lines_of, line_answered, items_of, journal_of, is_call, read_as, op_asked, answer_of, IsLegalHistory, CanStand}
use Rattle.history.proofs.Calls.{is_answer, reads_answer}
use Rattle.history.proofs.Lists.{slice_get_found}
use Rattle.history.proofs.Numbers.{passed, own_place}
use Rattle.history.proofs.Serial.{right_is_answer}
use Rattle.mm_fork.specs.Children.{space_from}
use Rattle.history.specs.SpaceLines.{child_lines}
use Rattle.mm_fork.proofs.Spaces.{after_on}

-- the item of a line that a caller does next after some items
abbrev item_next : Config → AddressSpace → ℕ → List Item → TraceLine → Item
item_next config space caller before line =
    let content : Content = answer_of config (space_from config space (journal_of before)) line.op in
    record { caller = caller; version = length (journal_of before) + cond (is_call content) 1 0; content = content }

same_item : (caller n : ℕ) (content : Content) (item : Item) → item.caller ≡ caller → item.version ≡ n + cond (is_call item.content) 1 0
    → item.content ≡ content → item ≡ record { caller = caller; version = n + cond (is_call content) 1 0; content = content }
same_item caller n content item by at is =
    let counted : item.version ≡ n + cond (is_call content) 1 0 = at ∙ ap (λ (c : Content). n + cond (is_call c) 1 0) is in
    ap (λ (k : ℕ). record item { caller = k }) by
    ∙ ap (λ (v : ℕ). record item { caller = caller; version = v }) counted
    ∙ ap (λ (c : Content). record { caller = caller; version = n + cond (is_call content) 1 0; content = c }) is

-- a line of a child has the child's caller
child_caller : (lines : List TraceLine) (child caller place : ℕ) (line : TraceLine)
    → slice_get (lines_of (child_lines lines child) caller) place ≡ Some line → caller ≡ caller_of (child_lines lines child) child
child_caller lines child caller place line found =
    let own : List TraceLine = child_lines lines child in
    let at = own_place own caller place line found in
    let is = passed (λ (l : TraceLine). nat_eq l.thread child) lines at.0 line at.1 in
    sym at.2 ∙ ap (λ (thread : ℕ). caller_of own thread) (eqb-true line.thread child is.2)

-- an item of a legal history, by the line that it answers
record Answered (config : Config) (before : List Entry) (lines : List TraceLine) (prior : List Item) (item : Item) (caller : ℕ) : Type 0 where
  line : TraceLine
  next : slice_get (lines_of lines caller) (length (items_of prior caller)) ≡ Some line
  is : item ≡ item_next config (after config before) caller prior line

asked_line : (o : Option TraceLine) (P : TraceLine → Type 0) → IsSomeAnd o P → (line : TraceLine) × (o ≡ Some line) × P line
asked_line None P none = absurd none
asked_line (Some line) P some = (line, refl, some)

answered : (config : Config) (before : List Entry) (lines : List TraceLine) (child : ℕ) (items : List Item) (place : ℕ) (item : Item)
    → IsLegalHistory config before (child_lines lines child) items → slice_get items place ≡ Some item
    → Answered config before (child_lines lines child) (take place items) item (caller_of (child_lines lines child) child)
unfolding line_answered
answered config before lines child items place item legal found =
    let own : List TraceLine = child_lines lines child in
    let caller : ℕ = caller_of own child in
    let prior : List Item = take place items in
    let stands : CanStand config before own prior item = legal.stands place item found in
    let asked = asked_line (slice_get (lines_of own item.caller) (length (items_of prior item.caller))) (λ line. read_as line.op ≡ op_asked item.content) stands.next in
    let by : item.caller ≡ caller = child_caller lines child item.caller (length (items_of prior item.caller)) asked.0 asked.1 in
    let journal : List Entry = before ++ journal_of prior in
    let space : AddressSpace = space_from config (after config before) (journal_of prior) in
    let content : item.content ≡ answer_of config space asked.0.op =
    right_is_answer config journal space item.content (after_on config before (journal_of prior))
    (is_answer config journal item.content stands.made (legal.right place item found))
    ∙ ap (λ op. answer_of config space op) (sym asked.2) ∙ reads_answer config space asked.0.op in
    record {
      line = asked.0;
      next = ap (λ (c : ℕ). slice_get (lines_of own c) (length (items_of prior c))) (sym by) ∙ asked.1;
      is = same_item caller (length (journal_of prior)) (answer_of config space asked.0.op) item by stands.version content;
    }

-- where one caller does all items, they are its own
all_own : (caller : ℕ) (items : List Item) → ((place : ℕ) (item : Item) → slice_get items place ≡ Some item → item.caller ≡ caller)
    → items_of items caller ≡ items
unfolding items_of
all_own caller [] all = refl
all_own caller (item ∷ items) all =
    cond-true (nat_eq item.caller caller) (item ∷ filter (λ (i : Item). nat_eq i.caller caller) items) (filter (λ (i : Item). nat_eq i.caller caller) items)
    (eq-eqb item.caller caller (all 0 item refl))
    ∙ ap (λ (l : List Item). item ∷ l) (all_own caller items (λ place i found. all (suc place) i found))

as_long : (config : Config) (before : List Entry) (lines : List TraceLine) (child : ℕ) (items : List Item)
    → IsLegalHistory config before (child_lines lines child) items
    → length items ≡ length (lines_of (child_lines lines child) (caller_of (child_lines lines child) child))
as_long config before lines child items legal =
    let own : List TraceLine = child_lines lines child in
    let caller : ℕ = caller_of own child in
    ap (λ (l : List Item). length l) (sym (all_own caller items (λ place item found.
    ap (λ (i : Item). i.caller) (answered config before lines child items place item legal found).is)))
    ∙ legal.none_left caller

same_some : {X : Type 0} (o : Option X) (x y : X) → o ≡ Some x → o ≡ Some y → x ≡ y
same_some o x y one two = cc

-- two items that answer the same line after the same items are the same
same_next : (config : Config) (before other : List Entry) (lines : List TraceLine) (caller : ℕ) (prior first : List Item) (x y : Item)
    → after config before ≡ after config other → prior ≡ first → Answered config before lines prior x caller
    → Answered config other lines first y caller → x ≡ y
same_next config before other lines caller prior first x y agree same a b =
    let line : a.line ≡ b.line =
    same_some (slice_get (lines_of lines caller) (length (items_of prior caller))) a.line b.line a.next
    (ap (λ (l : List Item). slice_get (lines_of lines caller) (length (items_of l caller))) same ∙ b.next) in
    a.is ∙ ap (λ (s : AddressSpace). item_next config s caller prior a.line) agree
    ∙ ap (λ (l : List Item). item_next config (after config other) caller l a.line) same
    ∙ ap (λ (l : TraceLine). item_next config (after config other) caller first l) line ∙ sym b.is

same_taken : (config : Config) (before other : List Entry) (lines : List TraceLine) (child : ℕ) (items others : List Item)
    → after config before ≡ after config other → IsLegalHistory config before (child_lines lines child) items
    → IsLegalHistory config other (child_lines lines child) others → length items ≡ length others
    → (count : ℕ) → count ≤ length items → take count items ≡ take count others
same_taken config before other lines child items others agree legal right long zero within = refl
same_taken config before other lines child items others agree legal right long (suc count) within =
    let own : List TraceLine = child_lines lines child in
    let so_far : take count items ≡ take count others =
    same_taken config before other lines child items others agree legal right long count (omega arith) in
    let one = slice_get_found items count (omega arith) in
    let two = slice_get_found others count (omega arith) in
    let same : one.0 ≡ two.0 =
    same_next config before other own (caller_of own child) (take count items) (take count others) one.0 two.0 agree so_far
    (answered config before lines child items count one.0 legal one.1) (answered config other lines child others count two.0 right two.1) in
    let there : get_or items count one.0 ≡ get_or others count one.0 =
    get_or_from_slice_get items count one.0 one.0 one.1 ∙ same ∙ sym (get_or_from_slice_get others count two.0 one.0 two.1) in
    let more : take (count + 1) items ≡ take (count + 1) others =
    take_more_same items others count one.0 (omega arith) (omega arith) so_far there in
    let next : count + 1 ≡ suc count = omega arith in
    subst (λ (n : ℕ). take n items ≡ take n others) next more

pub same_history : (config : Config) (before other : List Entry) (lines : List TraceLine) (child : ℕ) (items others : List Item)
    → after config before ≡ after config other → IsLegalHistory config before (child_lines lines child) items
    → IsLegalHistory config other (child_lines lines child) others → items ≡ others
same_history config before other lines child items others agree legal right =
    let long : length items ≡ length others = as_long config before lines child items legal ∙ sym (as_long config other lines child others right) in
    sym (take_all (length items) items (omega arith))
    ∙ same_taken config before other lines child items others agree legal right long (length items) (omega arith)
    ∙ take_all (length items) others (omega arith)
