-- For `retraced_texts_come_back`: the history of a trace that maps areas, one after another, and what is told of it.
use Rattle.std.proofs.Common.{ℕ, ◌≡◌, ◌+◌, ◌*◌, ◌∙◌, refl, sym, ap, subst, not, List, [], ◌∷◌, ◌++◌, append-nil, append_assoc, length, codes, decimal, map, filter, zip, flat_map, Option, Ok, arith}
use Rattle.std.specs.Option.{option_map_or}
use Rattle.std.proofs.lemmas.List.Elements.{All-nil, All-cons}
use Rattle.mm_types.specs.declared.area.Record.{Record}
use Rattle.mm_types.specs.declared.call.Call.TheVariants.{Mmap}
use Rattle.mm_types.specs.declared.call.Reply.{Reply}
use Rattle.mm_types.specs.declared.call.Reply.TheVariants.{Addr}
use Rattle.mm_types.specs.declared.config.Config.{Config}
use Rattle.mm_types.specs.declared.config.TheConstants.{PAGE_SIZE}
use Rattle.mm_types.specs.declared.files.FileRow.{FileRow}
use Rattle.mm_types.specs.Config.{default_config}
use Rattle.mm_types.specs.MapsText.{list_text}
use Rattle.mm_types.specs.Sorts.{sort_by}
use Rattle.trace_reader.specs.declared.trace.Trace.{Trace}
use Rattle.trace_reader.specs.declared.trace.TraceLine.{TraceLine}
use Rattle.trace_reader.specs.Lines.{has_child}
use Rattle.trace_reader.specs.Values.{children_of}
use Rattle.area_rules.specs.Tables.{AddressSpace, Outcome}
use Rattle.area_rules.specs.Steps.{opening, after}
use Rattle.history.specs.declared.items.Content.TheVariants as contents
use Rattle.history.specs.declared.items.Item.{Item}
use Rattle.history.specs.Histories.{AsksItself, AskThemselves, asks_for, caller_of, call_made, lines_of, journal_of, gather, serial_history, space_after_all}
use Rattle.history.proofs.Serial.{AllAnswer, all_answer, items_of_pairs, none_counted, opening_stands, pairs_from}
use Rattle.history.proofs.SerialOrder.{insert_item, BeginsAt, inserted_first, serial_space}
use Rattle.mm_space.specs.Closing.{ClosedView}
use Rattle.history.specs.Parents.{parent_lines, parent_trace}
use Rattle.maps_read.specs.RetraceLaws.{space_with, AreMappedBehind, mapping_trace, MakesMaps}
use Rattle.maps_read.specs.Mappings.{mapping_of, mapping_line, mapping_lines}
use Rattle.maps_read.proofs.Made.{makes}
use Rattle.vma_replay.specs.declared.forks.Fork.{Fork}
use Rattle.vma_replay.specs.declared.words.Conversion.TheVariants as conversions
use Rattle.vma_replay.specs.declared.words.Mode.TheVariants as modes
use Rattle.vma_replay.specs.Forks.{fork_of, forks_from, forks_of}
use Rattle.output.specs.Output.{content_text, item_text, told_by, maps_text, listed_text, output_text, serial_output}
use Rattle.vma_replay.specs.Replaying.{GivesRuns, converted, forks_of_run, history_of_run, text_of_run}
use Rattle.vma_replay.specs.Retraced.{address_line, address_lines, output_with, EndsWith}
use Rattle.vma_replay.proofs.RunTexts.{serial_is}

-- the line that maps an area, and its item with this reply, behind so many calls
abbrev replied : ℕ → ℕ → Record → Reply → TraceLine × Item
replied number version area reply =
    (mapping_line number area, record { caller = 0; version = version + 1; content = contents.Called (Mmap (mapping_of area)) reply })

-- the lines that map areas, each with its item
abbrev mapped_pairs : ℕ → ℕ → List Record → List (TraceLine × Item)
mapped_pairs number version [] = []
mapped_pairs number version (area ∷ areas) =
    replied number version area (Addr (PAGE_SIZE * area.span.lo)) ∷ mapped_pairs (number + 1) (version + 1) areas

abbrev items_in : List (TraceLine × Item) → List Item
items_in pairs = map (λ (p : TraceLine × Item). p.1) pairs

pairs_are : (trace : List TraceLine) (files : List FileRow) (before areas : List Record) (number version : ℕ) → AreMappedBehind files before areas
    → pairs_from (default_config files) trace (space_with files before) version (mapping_lines number areas) ≡ mapped_pairs number version areas
unfolding mapping_lines call_made caller_of
pairs_are trace files before [] number version mapped = refl
pairs_are trace files before (area ∷ areas) number version mapped =
    ap (λ (o : Outcome). replied number version area o.reply
    ∷ pairs_from (default_config files) trace o.space (version + 1) (mapping_lines (number + 1) areas)) mapped.0
    ∙ ap (λ (l : List (TraceLine × Item)). replied number version area (Addr (PAGE_SIZE * area.span.lo)) ∷ l)
    (pairs_are trace files (before ++ area ∷ []) areas (number + 1) (version + 1) mapped.1)

begins : (number version : ℕ) (areas : List Record) → BeginsAt version (items_in (mapped_pairs number version areas))
begins number version [] = tt
begins number version (area ∷ areas) = omega arith

-- their items are in order
in_order : (number version : ℕ) (areas : List Record)
    → gather (items_in (mapped_pairs number version areas)) ≡ items_in (mapped_pairs number version areas)
in_order number version [] = refl
in_order number version (area ∷ areas) =
    let first : TraceLine × Item = replied number version area (Addr (PAGE_SIZE * area.span.lo)) in
    ap (insert_item first.1) (in_order (number + 1) (version + 1) areas)
    ∙ inserted_first first.1 (items_in (mapped_pairs (number + 1) (version + 1) areas)) refl (begins (number + 1) (version + 1) areas)

history_is : (files : List FileRow) (areas : List Record) (number : ℕ) → AreMappedBehind files [] areas
    → serial_history (default_config files) (mapping_lines number areas) ≡ items_in (mapped_pairs number 0 areas)
unfolding serial_history opening
history_is files areas number mapped =
    let config : Config = default_config files in
    let lines : List TraceLine = mapping_lines number areas in
    ap gather (sym (items_of_pairs config lines (opening config) 0 lines) ∙ ap items_in (pairs_are lines files [] areas number 0 mapped))
    ∙ in_order number 0 areas

ask : (number : ℕ) (areas : List Record) → AskThemselves (mapping_lines number areas)
unfolding mapping_lines asks_for
ask number [] = All-nil (λ (line : TraceLine). AsksItself line.op)
ask number (area ∷ areas) =
    All-cons (λ (line : TraceLine). AsksItself line.op) (mapping_line number area) (mapping_lines (number + 1) areas) refl (ask (number + 1) areas)

-- each item answers its line
answers : (files : List FileRow) (areas : List Record) (number : ℕ) → AreMappedBehind files [] areas
    → AllAnswer (default_config files) (mapping_lines number areas) [] (mapped_pairs number 0 areas)
unfolding opening lines_of
answers files areas number mapped =
    let config : Config = default_config files in
    let lines : List TraceLine = mapping_lines number areas in
    subst (AllAnswer config lines []) (pairs_are lines files [] areas number 0 mapped)
    (all_answer config lines (opening config) 0 [] lines [] (ask number areas) (λ caller. refl) (none_counted lines) (opening_stands config))

-- what is told of lines, each with its item
abbrev told_pairs : {X : Type 0} → (TraceLine → Item → List X) → List (TraceLine × Item) → List X
told_pairs tell [] = []
told_pairs tell (pair ∷ pairs) = tell pair.0 pair.1 ++ told_pairs tell pairs

told_are : {X : Type 0} (tell : TraceLine → Item → List X) (config : Config) (trace : List TraceLine) (before : List Item)
    (pairs : List (TraceLine × Item)) → AllAnswer config trace before pairs → told_by tell trace before (items_in pairs) ≡ told_pairs tell pairs
told_are tell config trace before [] all = refl
told_are {X} tell config trace before (pair ∷ pairs) all =
    ap (λ (o : Option TraceLine). option_map_or (λ line. tell line pair.1) o [] ++ told_by tell trace (before ++ pair.1 ∷ []) (items_in pairs))
    all.0.line
    ∙ ap (λ (l : List X). tell pair.0 pair.1 ++ l) (told_are tell config trace (before ++ pair.1 ∷ []) pairs all.1)

told_history : {X : Type 0} (tell : TraceLine → Item → List X) (files : List FileRow) (areas : List Record) (number : ℕ)
    → AreMappedBehind files [] areas
    → told_by tell (mapping_lines number areas) [] (serial_history (default_config files) (mapping_lines number areas))
    ≡ told_pairs tell (mapped_pairs number 0 areas)
told_history tell files areas number mapped =
    ap (told_by tell (mapping_lines number areas) []) (history_is files areas number mapped)
    ∙ told_are tell (default_config files) (mapping_lines number areas) [] (mapped_pairs number 0 areas) (answers files areas number mapped)

texts_are : (files : List FileRow) (number version : ℕ) (areas : List Record)
    → told_pairs (item_text files) (mapped_pairs number version areas) ≡ address_lines number (version + 1) areas
unfolding content_text
texts_are files number version [] = refl
texts_are files number version (area ∷ areas) =
    ap (λ (t : List ℕ). address_line number (version + 1) area ++ t) (texts_are files (number + 1) (version + 1) areas)

no_forks : (number version : ℕ) (areas : List Record) → told_pairs fork_of (mapped_pairs number version areas) ≡ []
no_forks number version [] = refl
no_forks number version (area ∷ areas) = no_forks (number + 1) (version + 1) areas

-- all areas are there after the lines
space_is : (files : List FileRow) (before areas : List Record) (number : ℕ) → AreMappedBehind files before areas
    → space_after_all (default_config files) (space_with files before) (mapping_lines number areas) ≡ space_with files (before ++ areas)
unfolding mapping_lines call_made
space_is files before [] number mapped = ap (space_with files) (sym (append-nil before))
space_is files before (area ∷ areas) number mapped =
    ap (λ (o : Outcome). space_after_all (default_config files) o.space (mapping_lines (number + 1) areas)) mapped.0
    ∙ space_is files (before ++ area ∷ []) areas (number + 1) mapped.1
    ∙ ap (space_with files) (append_assoc before (area ∷ []) areas)

areas_are : (files : List FileRow) (areas : List Record) (number : ℕ) → AreMappedBehind files [] areas
    → (after (default_config files) (journal_of (serial_history (default_config files) (mapping_lines number areas)))).areas ≡ areas
unfolding opening
areas_are files areas number mapped =
    ap (λ (s : AddressSpace). s.areas)
    (serial_space (default_config files) (mapping_lines number areas) ∙ space_is files [] areas number mapped)

-- the output of the trace
output_is : (files : List FileRow) (areas : List Record) (bytes : List ℕ) → AreMappedBehind files [] areas → list_text files areas ≡ bytes
    → serial_output (mapping_trace files areas) ≡ output_with (mapping_trace files areas) areas bytes
unfolding serial_output output_text listed_text maps_text default_config
output_is files areas bytes mapped list =
    let number : ℕ = 2 + length files in
    let config : Config = default_config files in
    let lines : List TraceLine = mapping_lines number areas in
    let told : List ℕ = address_lines number 1 areas in
    ap (λ (t : List ℕ). t ++ maps_text files (after config (journal_of (serial_history config lines))).areas)
    (told_history (item_text files) files areas number mapped ∙ texts_are files number 0 areas)
    ∙ ap (λ (l : List Record). told ++ maps_text files l) (areas_are files areas number mapped)
    ∙ ap (λ (t : List ℕ). told ++ (codes "maps " ++ (decimal (length areas) ++ (codes "\n" ++ t)))) list

no_children : (number : ℕ) (areas : List Record) → children_of (mapping_lines number areas) ≡ []
unfolding mapping_lines
no_children number [] = refl
no_children number (area ∷ areas) = no_children (number + 1) areas

-- where no line forks, all lines are the parent's
all_lines : (lines : List TraceLine) → children_of lines ≡ [] → parent_lines lines ≡ lines
all_lines lines none = ap (λ (c : List ℕ). filter (λ (line : TraceLine). not (has_child c line.thread)) lines) none ∙ kept lines
  where
    kept : (lines : List TraceLine) → filter (λ (line : TraceLine). not (has_child [] line.thread)) lines ≡ lines
    kept [] = refl
    kept (line ∷ lines) = ap (λ (l : List TraceLine). line ∷ l) (kept lines)

-- where nothing forks, the output is all that `serial` gives
given_is : (trace : Trace) (runs : List ClosedView) (given : List ℕ) → children_of trace.lines ≡ []
    → forks_from trace.lines (serial_history trace.config trace.lines) ≡ [] → GivesRuns modes.Serial trace runs given
    → given ≡ serial_output trace
unfolding serial_output
given_is trace runs given childless forkless gives =
    let lines : List TraceLine = parent_lines trace.lines in
    let same : lines ≡ trace.lines = all_lines trace.lines childless in
    let items : history_of_run modes.Serial (parent_trace trace) gives.parent ≡ serial_history trace.config lines =
    serial_is (parent_trace trace) gives.parent gives.parent_is.run_is in
    let first : output_text trace.config lines (history_of_run modes.Serial (parent_trace trace) gives.parent) ≡ serial_output trace =
    ap (output_text trace.config lines) items
    ∙ ap (λ (l : List TraceLine). output_text trace.config l (serial_history trace.config l)) same in
    let forks : forks_of lines (history_of_run modes.Serial (parent_trace trace) gives.parent) ≡ [] =
    ap (forks_of lines) items ∙ ap (λ (l : List TraceLine). forks_of l (serial_history trace.config l)) same
    ∙ ap (λ (l : List Fork). sort_by (λ (fork : Fork). fork.child) l) forkless in
    let rest : List Fork → List ℕ = λ f. flat_map (text_of_run trace gives.parent.journal) (zip f gives.children) in
    gives.text_is ∙ ap (λ (t : List ℕ). t ++ rest (forks_of_run modes.Serial trace gives.parent)) first
    ∙ ap (λ (f : List Fork). serial_output trace ++ rest f) forks
    ∙ append-nil (serial_output trace)

pub comes_back : (bytes text : List ℕ) → converted conversions.Retrace bytes ≡ Ok text → EndsWith bytes text
unfolding default_config
comes_back bytes text e =
    let made : MakesMaps bytes text = makes bytes text e in
    let number : ℕ = 2 + length made.files in
    let output : serial_output (mapping_trace made.files made.areas) ≡ output_with (mapping_trace made.files made.areas) made.areas bytes =
    output_is made.files made.areas bytes made.maps made.list in
    record {
      trace = mapping_trace made.files made.areas;
      areas = made.areas;
      read = made.trace;
      list = made.list;
      output = output;
      given = λ runs given gives.
          given_is (mapping_trace made.files made.areas) runs given (no_children number made.areas)
          (told_history fork_of made.files made.areas number made.maps ∙ no_forks number 0 made.areas) gives
          ∙ output;
    }
