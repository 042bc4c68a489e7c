-- Serves `in_turn.rt`: what is told of the items that stand with lines is told line by line.
use Rattle.std.proofs.Common.{ℕ, ◌≡◌, ◌+◌, ◌<◌, ◌≤◌, ◌∙◌, refl, sym, ap, cond, Bool, true, false, nat_eq, List, [], ◌∷◌, ◌++◌, append_assoc, length, length-append, filter, drop, get_or, slice_get, codes, ◌⊎◌, Option, Some, None, arith, inl, inr}
use Rattle.std.specs.Option.{option_map_or}
use Rattle.std.proofs.lemmas.Bool.{cond-true, eq-eqb}
use Rattle.std.proofs.lemmas.List.{append-nil, drop_all, drop_more}
use Rattle.std.proofs.lemmas.List.Elements.{filter-append}
use Rattle.mm_types.specs.declared.area.Access.{Access}
use Rattle.mm_types.specs.declared.area.Page.{Page}
use Rattle.mm_types.specs.declared.area.Record.{Record}
use Rattle.mm_types.specs.declared.area.Verdict.{Verdict}
use Rattle.mm_types.specs.declared.call.Call.{Call}
use Rattle.mm_types.specs.declared.call.Reply.{Reply}
use Rattle.mm_types.specs.declared.files.FileRow.{FileRow}
use Rattle.trace_reader.specs.Values.{child_of}
use Rattle.trace_reader.specs.declared.trace.Op.{Op}
use Rattle.trace_reader.specs.declared.trace.Op.TheVariants as ops
use Rattle.trace_reader.specs.declared.trace.TraceLine.{TraceLine}
use Rattle.history.specs.declared.items.Content.TheVariants as contents
use Rattle.history.specs.declared.items.Item.{Item}
use Rattle.history.specs.Histories.{caller_of, items_of, line_answered, lines_of}
use Rattle.history.specs.Labels.{labelled}
use Rattle.output.specs.Output.{content_text, item_text, maps_text, reply_text, result_text, told_by, verdict_text}
use Rattle.output.specs.Telling.{told_in_turn}

at_count : {X : Type 0} (xs : List X) (x : X) (ys : List X) → slice_get (xs ++ x ∷ ys) (length xs) ≡ Some x
at_count [] x ys = refl
at_count (y ∷ xs) x ys = at_count xs x ys

-- as many of some items are of each caller as of some lines
abbrev AreAsMany : List TraceLine → List TraceLine → List Item → Type 0
AreAsMany trace done before = (caller : ℕ)
    → length (items_of before caller) ≡ length (filter (λ (line : TraceLine). nat_eq (caller_of trace line.thread) caller) done)

-- the item of a line
abbrev relabelled : List TraceLine → TraceLine → Item → Item
relabelled trace line item = record { caller = caller_of trace line.thread; version = item.version; content = item.content }

alike : (t : Bool) (item : Item) (line : TraceLine) → length (cond t (item ∷ []) []) ≡ length (cond t (line ∷ []) [])
alike true item line = refl
alike false item line = refl

many_more : (trace done : List TraceLine) (before : List Item) (line : TraceLine) (item : Item) → AreAsMany trace done before
    → AreAsMany trace (done ++ line ∷ []) (before ++ relabelled trace line item ∷ [])
unfolding items_of
many_more trace done before line item many = λ caller.
    let x : Item = relabelled trace line item in
    let own : Item → Bool = λ other. nat_eq other.caller caller in
    let its : TraceLine → Bool = λ other. nat_eq (caller_of trace other.thread) caller in
    omega (
      arith,
      ap length (filter-append own before (x ∷ [])),
      length-append (filter own before) (filter own (x ∷ [])),
      ap length (filter-append its done (line ∷ [])),
      length-append (filter its done) (filter its (line ∷ [])),
      many caller,
      alike (nat_eq (caller_of trace line.thread) caller) x line,
    )

-- so an item that stands with a line answers it
answers : (trace done rest : List TraceLine) (before : List Item) (line : TraceLine) (item : Item) → trace ≡ done ++ line ∷ rest
    → AreAsMany trace done before → line_answered trace before (relabelled trace line item) ≡ Some line
unfolding line_answered lines_of
answers trace done rest before line item is many =
    let caller : ℕ = caller_of trace line.thread in
    let its : TraceLine → Bool = λ other. nat_eq (caller_of trace other.thread) caller in
    ap (λ (n : ℕ). slice_get (filter its trace) n) (many caller)
    ∙ ap (λ (l : List TraceLine). slice_get l (length (filter its done)))
    (ap (filter its) is ∙ filter-append its done (line ∷ rest)
    ∙ ap (λ (l : List TraceLine). filter its done ++ l) (cond-true (its line) (line ∷ filter its rest) (filter its rest) (eq-eqb caller caller refl)))
    ∙ at_count (filter its done) line (filter its rest)

told_from : (files : List FileRow) (trace done rest : List TraceLine) (before items : List Item) → trace ≡ done ++ rest → AreAsMany trace done before
    → told_by (item_text files) trace before (labelled trace rest items) ≡ told_in_turn (item_text files) rest items
told_from files trace done [] before items is many = refl
told_from files trace done (line ∷ rest) before [] is many = refl
told_from files trace done (line ∷ rest) before (item ∷ items) is many =
    let x : Item = relabelled trace line item in
    let later : List ℕ = told_by (item_text files) trace (before ++ x ∷ []) (labelled trace rest items) in
    ap (λ (o : Option TraceLine). option_map_or (λ line. item_text files line x) o [] ++ later) (answers trace done rest before line item is many)
    ∙ ap (λ (t : List ℕ). item_text files line item ++ t)
    (told_from files trace (done ++ line ∷ []) rest (before ++ x ∷ []) items (is ∙ sym (append_assoc done (line ∷ []) rest))
    (many_more trace done before line item many))

none_many : (trace : List TraceLine) → AreAsMany trace [] []
unfolding items_of
none_many trace = λ caller. refl

-- what is told of items with the callers of the lines that stand with them
pub told_of_lines : (files : List FileRow) (lines : List TraceLine) (items : List Item)
    → told_by (item_text files) lines [] (labelled lines lines items) ≡ told_in_turn (item_text files) lines items
told_of_lines files lines items = told_from files lines [] lines [] items refl (none_many lines)

-- one line more
pub told_more : (files : List FileRow) (lines : List TraceLine) (place : ℕ) (d : TraceLine) (items left : List Item) (item : Item) (text whole : List ℕ)
    → place < length lines → items ≡ item ∷ left → text ++ told_in_turn (item_text files) (drop place lines) items ≡ whole
    → (text ++ item_text files (get_or lines place d) item) ++ told_in_turn (item_text files) (drop (place + 1) lines) left ≡ whole
told_more files lines place d items left item text whole within first so_far =
    let tell : TraceLine → Item → List ℕ = item_text files in
    append_assoc text (tell (get_or lines place d) item) (told_in_turn tell (drop (place + 1) lines) left)
    ∙ ap (λ (l : List TraceLine). text ++ told_in_turn tell l (item ∷ left)) (sym (drop_more lines place d within))
    ∙ ap (λ (l : List Item). text ++ told_in_turn tell (drop place lines) l) (sym first) ∙ so_far

-- the last line was told
pub told_to_the_end : (files : List FileRow) (lines : List TraceLine) (place : ℕ) (items : List Item) (text whole : List ℕ) → length lines ≤ place
    → text ++ told_in_turn (item_text files) (drop place lines) items ≡ whole → text ≡ whole
told_to_the_end files lines place items text whole past so_far =
    sym (append-nil text) ∙ ap (λ (l : List TraceLine). text ++ told_in_turn (item_text files) l items) (sym (drop_all place lines past)) ∙ so_far

none_told : (files : List FileRow) (lines : List TraceLine) → told_in_turn (item_text files) lines [] ≡ []
none_told files [] = refl
none_told files (line ∷ lines) = refl

-- the last thing that was done was told
pub told_to_the_last : (files : List FileRow) (lines : List TraceLine) (items : List Item) (text whole : List ℕ) → items ≡ []
    → text ++ told_in_turn (item_text files) lines items ≡ whole → text ≡ whole
told_to_the_last files lines items text whole none so_far =
    sym (append-nil text) ∙ ap (λ (l : List ℕ). text ++ l) (sym (none_told files lines))
    ∙ ap (λ (l : List Item). text ++ told_in_turn (item_text files) lines l) (sym none) ∙ so_far

-- whether a line forks is nothing to a reply and to a verdict
pub reply_told : (files : List FileRow) (child : Option ℕ) (call : Call) (reply : Reply)
    → reply_text reply ++ codes "\n" ≡ result_text files child (contents.Called call reply)
unfolding content_text
reply_told files None call reply = refl
reply_told files (Some child) call reply = refl

pub verdict_told : (files : List FileRow) (child : Option ℕ) (page : Page) (access : Access) (verdict : Verdict)
    → verdict_text verdict ++ codes "\n" ≡ result_text files child (contents.Fault page access verdict)
unfolding content_text
verdict_told files None page access verdict = refl
verdict_told files (Some child) page access verdict = refl

list_told : (files : List FileRow) (child : Option ℕ) (areas : List Record) → child ≡ None
    → maps_text files areas ≡ result_text files child (contents.List areas)
unfolding content_text
list_told files None areas none = refl
list_told files (Some child) areas none = absurd (cc)

-- an operation that makes no child shows the whole list
pub areas_told : (files : List FileRow) (op : Op) (areas : List Record)
    → ((call : Call) × (op ≡ ops.Call call)) ⊎ (((page : Page) × (access : Access) × (op ≡ ops.Fault page access)) ⊎ (op ≡ ops.Maps))
    → maps_text files areas ≡ result_text files (child_of op) (contents.List areas)
areas_told files op areas (inl call) = list_told files (child_of op) areas (ap child_of call.1)
areas_told files op areas (inr (inl fault)) = list_told files (child_of op) areas (ap child_of fault.2)
areas_told files op areas (inr (inr maps)) = list_told files (child_of op) areas (ap child_of maps)
