-- For the law that the serial history is legal and of the trace.
use Rattle.std.proofs.Common.{ℕ, zero, suc, ◌≡◌, ◌+◌, ◌≤◌, ◌∙◌, refl, sym, ap, subst, cond, if◌then◌else◌, Bool, true, false, nat_eq, List, [], ◌∷◌, ◌++◌, append_assoc, length, length-append, map, filter, filter_map, take, slice_get, fold, Option, Some, None, IfSome, IsSomeAnd, arith}
use Rattle.std.specs.Prelude.{is_some}
use Rattle.std.specs.List.{last_or}
use Rattle.std.proofs.lemmas.Bool.{true≢false, cond-false}
use Rattle.std.proofs.lemmas.Bool.Decides.{nat_tests}
use Rattle.std.proofs.lemmas.List.{append-nil}
use Rattle.std.proofs.lemmas.List.Elements.{All-head, All-tail, filter-append, filter_map-append}
use Rattle.std.proofs.lemmas.List.Sums.{fold-append}
use Rattle.mm_types.specs.declared.call.Call.{Call}
use Rattle.mm_types.specs.declared.call.Entry.{Entry}
use Rattle.mm_types.specs.declared.config.Config.{Config}
use Rattle.history.specs.declared.items.Content.{Content}
use Rattle.history.specs.declared.items.Content.TheVariants as contents
use Rattle.history.specs.declared.items.Item.{Item}
use Rattle.trace_reader.specs.declared.trace.Op.{Op}
use Rattle.trace_reader.specs.declared.trace.Op.TheVariants as ops
use Rattle.trace_reader.specs.declared.trace.TraceLine.{TraceLine}
use Rattle.area_rules.specs.Tables.{AddressSpace}
use Rattle.area_rules.specs.Verdicts.{verdict}
use Rattle.area_rules.specs.Steps.{step, opening, after}
use Rattle.history.specs.Histories.{caller_of, lines_of, items_of, asks_for, AsksItself, AskThemselves, read_as, op_asked, call_made, makes_call, is_call, entry_of, journal_of, line_answered, StandsAmong, CanStand, IsRight, IsLegalHistory, read_of, answer_by, space_by, version_by, answer_of, space_after, version_after, items_from, space_after_all, answered_by}
use Rattle.history.proofs.Calls.{call_asked, line_call, list_call, asked_reads, IsAnswer, answer_made, answer_right}

-- the item of a line
abbrev pub item_of : Config → List TraceLine → AddressSpace → ℕ → TraceLine → Item
item_of config trace space version line = record { caller = caller_of trace line.thread; version = version_after config space version line.op; content = answer_of config space line.op }

-- a read is no call
read_answer : (config : Config) (space : AddressSpace) (op : Op) → is_call (read_of config space op) ≡ false
read_answer config space (ops.Call call) = refl
read_answer config space (ops.Fault page access) = refl
read_answer config space ops.Maps = refl
read_answer config space (ops.Fork child) = refl

pub call_answer : (config : Config) (space : AddressSpace) (op : Op) → is_call (answer_of config space op) ≡ makes_call config space op
call_answer config space op = by_call (call_made config space op)
  where
    by_call : (made : Option Call) → is_call (answer_by config space op made) ≡ is_some made
    by_call (Some call) = refl
    by_call None = read_answer config space op

asked : (config : Config) (space : AddressSpace) (op : Op) → AsksItself op → read_as op ≡ op_asked (answer_of config space op)
asked config space op itself = by_call op (call_made config space op) itself refl
  where
    by_call : (op : Op) (made : Option Call) → AsksItself op → call_made config space op ≡ made
        → read_as op ≡ op_asked (answer_by config space op made)
    by_call op (Some call) itself is = ap read_as (call_asked config space op call itself is) ∙ asked_reads call
    by_call (ops.Call call) None itself is = let makes : Some call ≡ None = sym (line_call config space call) ∙ is in absurd (cc)
    by_call (ops.Fault page access) None itself is = refl
    by_call ops.Maps None itself is = refl
    by_call (ops.Fork child) None itself is = refl

pub next_version : (config : Config) (space : AddressSpace) (version : ℕ) (op : Op)
    → version_after config space version op ≡ version + (if is_call (answer_of config space op) then 1 else 0)
next_version config space version op = by_call (call_made config space op)
  where
    by_call : (made : Option Call) → version_by version made ≡ version + (if is_call (answer_by config space op made) then 1 else 0)
    by_call (Some call) = refl
    by_call None = omega (arith, cond-false {A = ℕ} (is_call (read_of config space op)) 1 0 (read_answer config space op))

-- the element after a beginning
get_middle : {A : Type 0} (xs : List A) (y : A) (ys : List A) → slice_get (xs ++ y ∷ ys) (length xs) ≡ Some y
get_middle [] y ys = refl
get_middle (x ∷ xs) y ys = get_middle xs y ys

nat_eq_itself : (n : ℕ) → nat_eq n n ≡ true
nat_eq_itself n = grind (arith, nat_tests)

-- how many items there are of each caller, as there are lines
abbrev pub Counts : List TraceLine → List Item → List TraceLine → Type 0
Counts trace before front = (caller : ℕ) → length (items_of before caller) ≡ length (filter (λ line. nat_eq (caller_of trace line.thread) caller) front)

-- one line and its item more
pub counts_more : (config : Config) (trace : List TraceLine) (space : AddressSpace) (version : ℕ) (line : TraceLine) (before : List Item) (front : List TraceLine)
    → Counts trace before front → Counts trace (before ++ item_of config trace space version line ∷ []) (front ++ line ∷ [])
unfolding items_of
counts_more config trace space version line before front same caller =
    let p : Item → Bool = λ item. nat_eq item.caller caller in
    let q : TraceLine → Bool = λ line. nat_eq (caller_of trace line.thread) caller in
    let item : Item = item_of config trace space version line in
    let lengths : length (filter p (item ∷ [])) ≡ length (filter q (line ∷ [])) = one_more (nat_eq (caller_of trace line.thread) caller) item line in
    ap (λ (l : List Item). length l) (filter-append p before (item ∷ [])) ∙ length-append (filter p before) (filter p (item ∷ []))
    ∙ ap (λ (n : ℕ). n + length (filter p (item ∷ []))) (same caller) ∙ ap (λ (n : ℕ). length (filter q front) + n) lengths
    ∙ sym (length-append (filter q front) (filter q (line ∷ []))) ∙ sym (ap (λ (l : List TraceLine). length l) (filter-append q front (line ∷ [])))
  where
    one_more : (t : Bool) (item : Item) (line : TraceLine) → length (cond t (item ∷ []) []) ≡ length (cond t (line ∷ []) [])
    one_more true item line = refl
    one_more false item line = refl

-- these lines are those of the trace, and those of each caller are in its order
abbrev pub HasLines : List TraceLine → List TraceLine → Type 0
HasLines trace lines = (caller : ℕ) → lines_of trace caller ≡ filter (λ line. nat_eq (caller_of trace line.thread) caller) lines

-- the line that an item answers, where the lines before it are answered
pub answers_line : (trace : List TraceLine) (before : List Item) (front : List TraceLine) (line : TraceLine) (rest : List TraceLine) (item : Item)
    → HasLines trace (front ++ line ∷ rest) → Counts trace before front → item.caller ≡ caller_of trace line.thread → line_answered trace before item ≡ Some line
unfolding line_answered
answers_line trace before front line rest item whole same by =
    let q : TraceLine → Bool = λ l. nat_eq (caller_of trace l.thread) item.caller in
    let here : q line ≡ true = ap (λ (n : ℕ). nat_eq n item.caller) (sym by) ∙ nat_eq_itself item.caller in
    let split : lines_of trace item.caller ≡ filter q front ++ line ∷ filter q rest =
    whole item.caller ∙ filter-append q front (line ∷ rest)
    ∙ ap (λ (t : Bool). filter q front ++ cond t (line ∷ filter q rest) (filter q rest)) here in
    ap (λ (l : List TraceLine). slice_get l (length (items_of before item.caller))) split
    ∙ ap (λ (n : ℕ). slice_get (filter q front ++ line ∷ filter q rest) n) (same item.caller)
    ∙ get_middle (filter q front) line (filter q rest)

-- the journal after one item more
journal_more : (before : List Item) (item : Item) → journal_of (before ++ item ∷ []) ≡ journal_of before ++ filter_map entry_of (item ∷ [])
unfolding journal_of
journal_more before item = filter_map-append entry_of before (item ∷ [])

-- where a history stands: its journal leads to this address space, and counts this version
pub record Stands (config : Config) (before : List Item) (space : AddressSpace) (version : ℕ) : Type 0 where
  pub reached : after config (journal_of before) ≡ space
  pub counted : length (journal_of before) ≡ version

pub stands_more : (config : Config) (before : List Item) (space : AddressSpace) (version caller now : ℕ) (op : Op) → Stands config before space version
    → Stands config (before ++ record { caller = caller; version = now; content = answer_of config space op } ∷ []) (space_after config space op)
    (version_after config space version op)
unfolding after
stands_more config before space version caller now op stands = by_call (call_made config space op)
  where
    at_read : (content : Content) → is_call content ≡ false
        → Stands config (before ++ record { caller = caller; version = now; content = content } ∷ []) space version
    at_read (contents.Called call reply) read = absurd (true≢false read)
    at_read (contents.Fault page access found) read =
        let item : Item = record { caller = caller; version = now; content = contents.Fault page access found } in
        let same : journal_of (before ++ item ∷ []) ≡ journal_of before = journal_more before item ∙ append-nil (journal_of before) in
        record { reached = ap (λ (j : List Entry). after config j) same ∙ stands.reached; counted = ap (λ (j : List Entry). length j) same ∙ stands.counted }
    at_read (contents.List areas) read =
        let item : Item = record { caller = caller; version = now; content = contents.List areas } in
        let same : journal_of (before ++ item ∷ []) ≡ journal_of before = journal_more before item ∙ append-nil (journal_of before) in
        record { reached = ap (λ (j : List Entry). after config j) same ∙ stands.reached; counted = ap (λ (j : List Entry). length j) same ∙ stands.counted }

    by_call : (made : Option Call) → Stands config (before ++ record { caller = caller; version = now; content = answer_by config space op made } ∷ [])
        (space_by config space made) (version_by version made)
    by_call (Some call) =
        let entry : Entry = record { caller = caller; call = call; reply = (step config space call).reply } in
        let item : Item = record { caller = caller; version = now; content = contents.Called call (step config space call).reply } in
        let more : journal_of (before ++ item ∷ []) ≡ journal_of before ++ entry ∷ [] = journal_more before item in
        let next : AddressSpace → Entry → AddressSpace = λ s e. (step config s e.call).space in
        record {
          reached = ap (λ (j : List Entry). fold next (opening config) j) more ∙ fold-append next (opening config) (journal_of before) (entry ∷ [])
              ∙ ap (λ (s : AddressSpace). (step config s call).space) stands.reached;
          counted = ap (λ (j : List Entry). length j) more ∙ length-append (journal_of before) (entry ∷ []) ∙ ap (λ (n : ℕ). n + 1) stands.counted;
        }
    by_call None = at_read (read_of config space op) (read_answer config space op)

-- the answer of a line is right where the journal leads to its address space
right_answer : (config : Config) (journal : List Entry) (space : AddressSpace) (op : Op) → AsksItself op → after config journal ≡ space
    → IsAnswer config journal (answer_of config space op)
right_answer config journal space op itself here = by_call op (call_made config space op) itself refl
  where
    by_call : (op : Op) (made : Option Call) → AsksItself op → call_made config space op ≡ made
        → IsAnswer config journal (answer_by config space op made)
    by_call op (Some call) itself is = (
      ap (λ (s : AddressSpace). call_made config s (asks_for call)) here
          ∙ ap (call_made config space) (sym (call_asked config space op call itself is)) ∙ is,
      ap (λ (s : AddressSpace). (step config s call).reply) (sym here),
    )
    by_call (ops.Call call) None itself is = ap (λ (s : AddressSpace). s.areas) (sym here)
    by_call (ops.Fault page access) None itself is = (
      ap (λ (s : AddressSpace). call_made config s (ops.Fault page access)) here ∙ is,
      ap (λ (s : AddressSpace). verdict config s.areas page.0 access) (sym here),
    )
    by_call ops.Maps None itself is = ap (λ (s : AddressSpace). s.areas) (sym here)
    by_call (ops.Fork child) None itself is = ap (λ (s : AddressSpace). s.areas) (sym here)

-- a content that is right after a journal is the answer to what it was asked
pub right_is_answer : (config : Config) (journal : List Entry) (space : AddressSpace) (content : Content) → after config journal ≡ space
    → IsAnswer config journal content → content ≡ answer_of config space (op_asked content)
right_is_answer config journal space (contents.Called call reply) here right =
    ap (contents.Called call) (right.1 ∙ ap (λ (s : AddressSpace). (step config s call).reply) here)
    ∙ ap (answer_by config space (asks_for call)) (sym right.0 ∙ ap (λ (s : AddressSpace). call_made config s (asks_for call)) here)
right_is_answer config journal space (contents.Fault page access found) here right =
    ap (contents.Fault page access) (right.1 ∙ ap (λ (s : AddressSpace). verdict config s.areas page.0 access) here)
    ∙ ap (answer_by config space (ops.Fault page access)) (sym right.0 ∙ ap (λ (s : AddressSpace). call_made config s (ops.Fault page access)) here)
right_is_answer config journal space (contents.List areas) here right =
    ap contents.List (right ∙ ap (λ (s : AddressSpace). s.areas) here)
    ∙ ap (answer_by config space ops.Maps) (sym (list_call config space))

-- lines, one after another, each with its answer
abbrev pub pairs_from : Config → List TraceLine → AddressSpace → ℕ → List TraceLine → List (TraceLine × Item)
pairs_from config trace space version [] = []
pairs_from config trace space version (line ∷ lines) =
    answered_by config trace space version line ∷ pairs_from config trace (space_after config space line.op) (version_after config space version line.op) lines

pub items_of_pairs : (config : Config) (trace : List TraceLine) (space : AddressSpace) (version : ℕ) (lines : List TraceLine)
    → map (λ (p : TraceLine × Item). p.1) (pairs_from config trace space version lines) ≡ items_from config trace space version lines
items_of_pairs config trace space version [] = refl
items_of_pairs config trace space version (line ∷ lines) =
    ap (λ (l : List Item). item_of config trace space version line ∷ l)
    (items_of_pairs config trace (space_after config space line.op) (version_after config space version line.op) lines)

-- after others, an item of its version answers this line, and is right
pub record Answers (config : Config) (trace : List TraceLine) (before : List Item) (pair : TraceLine × Item) : Type 0 where
  pub version : pair.1.version ≡ length (journal_of before) + (if is_call pair.1.content then 1 else 0)
  pub line : line_answered trace before pair.1 ≡ Some pair.0
  pub asks : read_as pair.0.op ≡ op_asked pair.1.content
  pub right : IsAnswer config (journal_of before) pair.1.content

-- each item answers its line, after those before it
abbrev pub AllAnswer : Config → List TraceLine → List Item → List (TraceLine × Item) → Type 0
AllAnswer config trace before [] = Unit {0}
AllAnswer config trace before (pair ∷ pairs) = Answers config trace before pair × AllAnswer config trace (before ++ pair.1 ∷ []) pairs

pub all_answer : (config : Config) (trace : List TraceLine) (space : AddressSpace) (version : ℕ) (front lines : List TraceLine) (before : List Item)
    → AskThemselves lines → HasLines trace (front ++ lines) → Counts trace before front → Stands config before space version
    → AllAnswer config trace before (pairs_from config trace space version lines)
all_answer config trace space version front [] before themselves whole same stands = tt
all_answer config trace space version front (line ∷ lines) before themselves whole same stands =
    let item : Item = item_of config trace space version line in
    let itself : AsksItself line.op = All-head (λ (l : TraceLine). AsksItself l.op) line lines themselves in (
      record {
        version = next_version config space version line.op ∙ ap (λ (n : ℕ). n + (if is_call item.content then 1 else 0)) (sym stands.counted);
        line = answers_line trace before front line lines item whole same refl;
        asks = asked config space line.op itself;
        right = right_answer config (journal_of before) space line.op itself stands.reached;
      },
      all_answer config trace (space_after config space line.op) (version_after config space version line.op) (front ++ line ∷ []) lines (before ++ item ∷ [])
          (All-tail (λ (l : TraceLine). AsksItself l.op) line lines themselves)
          (subst (λ (l : List TraceLine). HasLines trace l) (sym (append_assoc front (line ∷ []) lines)) whole)
          (counts_more config trace space version line before front same)
          (stands_more config before space version item.caller item.version line.op stands),
    )

-- so does the item of each place
pub answer_at : (config : Config) (trace : List TraceLine) (before : List Item) (pairs : List (TraceLine × Item)) (place : ℕ) (pair : TraceLine × Item)
    → AllAnswer config trace before pairs → slice_get pairs place ≡ Some pair
    → Answers config trace (before ++ take place (map (λ (p : TraceLine × Item). p.1) pairs)) pair
answer_at config trace before [] place pair all found = absurd (cc)
answer_at config trace before (first ∷ pairs) zero pair all found =
    let is_first : first ≡ pair = cc in
    subst (λ (b : List Item). Answers config trace b pair) (sym (append-nil before))
    (subst (λ (p : TraceLine × Item). Answers config trace before p) is_first all.0)
answer_at config trace before (first ∷ pairs) (suc place) pair all found =
    subst (λ (b : List Item). Answers config trace b pair) (append_assoc before (first.1 ∷ []) (take place (map (λ (p : TraceLine × Item). p.1) pairs)))
    (answer_at config trace (before ++ first.1 ∷ []) pairs place pair all.1 found)

-- an item at a place has a line there
pub pair_at : (pairs : List (TraceLine × Item)) (place : ℕ) (item : Item) → slice_get (map (λ (p : TraceLine × Item). p.1) pairs) place ≡ Some item
    → (pair : TraceLine × Item) × (slice_get pairs place ≡ Some pair) × (pair.1 ≡ item)
pair_at [] place item found = absurd (cc)
pair_at (first ∷ pairs) zero item found = (first, refl, cc)
pair_at (first ∷ pairs) (suc place) item found = pair_at pairs place item found

-- two reads go by caller
abbrev pub GoesBefore : Item → Item → Type 0
GoesBefore prior item = is_call prior.content ≡ false → is_call item.content ≡ false → prior.caller ≤ item.caller

-- reads go by caller, after this item too
abbrev pub AreOrdered : Option Item → List Item → Type 0
AreOrdered prior [] = Unit {0}
AreOrdered prior (item ∷ items) = IfSome prior (λ p. GoesBefore p item) × AreOrdered (Some item) items

pub ordered_at : (prior : Option Item) (items : List Item) (place : ℕ) (item : Item) → AreOrdered prior items → slice_get items place ≡ Some item
    → IfSome (last_or prior (take place items)) (λ p. GoesBefore p item)
ordered_at prior [] place item ordered found = absurd (cc)
ordered_at prior (first ∷ items) zero item ordered found =
    let is_first : first ≡ item = cc in
    subst (λ (i : Item). IfSome prior (λ p. GoesBefore p i)) is_first ordered.0
ordered_at prior (first ∷ items) (suc place) item ordered found = ordered_at (Some first) items place item ordered.1 found

-- as many items of each caller as lines
all_counted : (config : Config) (trace : List TraceLine) (space : AddressSpace) (version : ℕ) (front lines : List TraceLine) (before : List Item)
    → Counts trace before front → Counts trace (before ++ items_from config trace space version lines) (front ++ lines)
all_counted config trace space version front [] before same =
    subst (λ (b : List Item). Counts trace b (front ++ [])) (sym (append-nil before)) (subst (λ (f : List TraceLine). Counts trace before f) (sym (append-nil front)) same)
all_counted config trace space version front (line ∷ lines) before same =
    let first : Item = item_of config trace space version line in
    let later : List Item = items_from config trace (space_after config space line.op) (version_after config space version line.op) lines in
    subst (λ (b : List Item). Counts trace b (front ++ line ∷ lines)) (append_assoc before (first ∷ []) later)
    (subst (λ (f : List TraceLine). Counts trace ((before ++ first ∷ []) ++ later) f) (append_assoc front (line ∷ []) lines)
    (all_counted config trace (space_after config space line.op) (version_after config space version line.op) (front ++ line ∷ []) lines (before ++ first ∷ [])
    (counts_more config trace space version line before front same)))

pub none_counted : (trace : List TraceLine) → Counts trace [] []
unfolding items_of
none_counted trace caller = refl

pub opening_stands : (config : Config) → Stands config [] (opening config) 0
unfolding after journal_of
opening_stands config = record { reached = refl; counted = refl }

-- of lines that are those of the trace, the pair of each place
pub answers_place : (config : Config) (trace lines : List TraceLine) (place : ℕ) (pair : TraceLine × Item) → AskThemselves lines → HasLines trace lines
    → slice_get (pairs_from config trace (opening config) 0 lines) place ≡ Some pair
    → Answers config trace (take place (items_from config trace (opening config) 0 lines)) pair
answers_place config trace lines place pair themselves whole found =
    subst (λ (items : List Item). Answers config trace (take place items) pair) (items_of_pairs config trace (opening config) 0 lines)
    (answer_at config trace [] (pairs_from config trace (opening config) 0 lines) place pair
    (all_answer config trace (opening config) 0 [] lines [] themselves whole (none_counted trace) (opening_stands config)) found)

can_stand : (config : Config) (trace : List TraceLine) (before : List Item) (pair : TraceLine × Item) → Answers config trace before pair
    → IfSome (last_or None before) (λ p. GoesBefore p pair.1) → IfSome pair.0.after (StandsAmong trace before)
    → CanStand config [] trace before pair.1
can_stand config trace before pair answers order told = record {
  version = answers.version;
  order = order;
  next = subst (λ (o : Option TraceLine). IsSomeAnd o (λ l. read_as l.op ≡ op_asked pair.1.content)) (sym answers.line) answers.asks;
  made = answer_made config (journal_of before) pair.1.content answers.right;
  named = subst (λ (o : Option TraceLine). IfSome o (λ l. IfSome l.after (StandsAmong trace before))) (sym answers.line) told;
}

-- the line of each pair is that of its place
pub line_at : (config : Config) (trace : List TraceLine) (space : AddressSpace) (version : ℕ) (lines : List TraceLine) (place : ℕ)
    (pair : TraceLine × Item) → slice_get (pairs_from config trace space version lines) place ≡ Some pair → slice_get lines place ≡ Some pair.0
line_at config trace space version [] place pair found = absurd (cc)
line_at config trace space version (line ∷ lines) zero pair found =
    let is : answered_by config trace space version line ≡ pair = cc in ap (λ (p : TraceLine × Item). Some p.0) is
line_at config trace space version (line ∷ lines) (suc place) pair found =
    line_at config trace (space_after config space line.op) (version_after config space version line.op) lines place pair found

-- the items before a place are those of the lines before it
items_taken : (config : Config) (trace : List TraceLine) (space : AddressSpace) (version : ℕ) (lines : List TraceLine) (place : ℕ)
    → take place (items_from config trace space version lines) ≡ items_from config trace space version (take place lines)
items_taken config trace space version [] zero = refl
items_taken config trace space version [] (suc place) = refl
items_taken config trace space version (line ∷ lines) zero = refl
items_taken config trace space version (line ∷ lines) (suc place) =
    ap (λ (l : List Item). item_of config trace space version line ∷ l)
    (items_taken config trace (space_after config space line.op) (version_after config space version line.op) lines place)

-- and there are as many of each caller
pub counts_taken : (config : Config) (trace lines : List TraceLine) (place : ℕ)
    → Counts trace (take place (items_from config trace (opening config) 0 lines)) (take place lines)
counts_taken config trace lines place =
    subst (λ (items : List Item). Counts trace items (take place lines)) (sym (items_taken config trace (opening config) 0 lines place))
    (all_counted config trace (opening config) 0 [] (take place lines) [] (none_counted trace))

-- the items of lines that are those of the trace, where reads go by caller and what a line names stands before it, are a legal history
pub items_are_history : (config : Config) (trace lines : List TraceLine) → AskThemselves lines → HasLines trace lines
    → AreOrdered None (items_from config trace (opening config) 0 lines)
    → ((place : ℕ) (line : TraceLine) → slice_get lines place ≡ Some line
    → IfSome line.after (StandsAmong trace (take place (items_from config trace (opening config) 0 lines))))
    → IsLegalHistory config [] trace (items_from config trace (opening config) 0 lines)
items_are_history config trace lines themselves whole ordered told =
    let items : List Item = items_from config trace (opening config) 0 lines in
    let pairs : List (TraceLine × Item) = pairs_from config trace (opening config) 0 lines in
    let paired : (place : ℕ) (item : Item) → slice_get items place ≡ Some item → (pair : TraceLine × Item) × (slice_get pairs place ≡ Some pair) × (pair.1 ≡ item) =
    λ place item found. pair_at pairs place item (ap (λ (l : List Item). slice_get l place) (items_of_pairs config trace (opening config) 0 lines) ∙ found) in
    record {
      stands = λ place item found. let p = paired place item found in
          subst (λ (i : Item). CanStand config [] trace (take place items) i) p.2
          (can_stand config trace (take place items) p.0 (answers_place config trace lines place p.0 themselves whole p.1)
          (subst (λ (i : Item). IfSome (last_or None (take place items)) (λ q. GoesBefore q i)) (sym p.2) (ordered_at None items place item ordered found))
          (told place p.0.0 (line_at config trace (opening config) 0 lines place p.0 p.1)));
      right = λ place item found. let p = paired place item found in
          subst (λ (i : Item). IsRight config (journal_of (take place items)) i.content) p.2
          (answer_right config (journal_of (take place items)) p.0.1.content (answers_place config trace lines place p.0 themselves whole p.1).right);
      none_left = λ caller. all_counted config trace (opening config) 0 [] lines [] (none_counted trace) caller ∙ ap (λ (l : List TraceLine). length l) (sym (whole caller));
    }

-- where the journal of their items leads
pub all_reached : (config : Config) (trace : List TraceLine) (space : AddressSpace) (version : ℕ) (lines : List TraceLine) (before : List Item)
    → Stands config before space version → after config (journal_of (before ++ items_from config trace space version lines)) ≡ space_after_all config space lines
all_reached config trace space version [] before stands = ap (λ (b : List Item). after config (journal_of b)) (append-nil before) ∙ stands.reached
all_reached config trace space version (line ∷ lines) before stands =
    let first : Item = item_of config trace space version line in
    let later : List Item = items_from config trace (space_after config space line.op) (version_after config space version line.op) lines in
    ap (λ (b : List Item). after config (journal_of b)) (sym (append_assoc before (first ∷ []) later))
    ∙ all_reached config trace (space_after config space line.op) (version_after config space version line.op) lines (before ++ first ∷ [])
    (stands_more config before space version first.caller first.version line.op stands)
