-- Serves `print_maps` and `give_family`: the text of a list, and two texts that are printed into an empty piece.
use Rattle.std.proofs.Common.{ℕ, ◌≡◌, ◌∙◌, sym, ap, subst, append_assoc, ◌++◌, List, [], codes, decimal, length}
use Rattle.io_edge.specs.Edge.{SinkView}
use Rattle.output.specs.declared.error.PrintError.{PrintError}
use Rattle.mm_types.specs.declared.area.Record.{Record}
use Rattle.mm_types.specs.declared.files.FileRow.{FileRow}
use Rattle.mm_types.specs.MapsText.{list_text}
use Rattle.trace_reader.specs.declared.trace.Op.{Op}
use Rattle.trace_reader.specs.declared.trace.Op.TheVariants as ops
use Rattle.trace_reader.specs.Values.{child_of}
use Rattle.history.specs.declared.items.Content.{Content}
use Rattle.history.specs.declared.items.Content.TheVariants as contents
use Rattle.output.specs.Output.{forked_text, maps_text, result_text}
use Rattle.output.specs.Giving.{IsCutOff, Prints}
use Rattle.output.proofs.Pieces.{cut_more, cut_then, prints_then}

-- the line of the count and the lines of the areas
pub maps_is : (files : List FileRow) (areas : List Record)
    → (codes "maps " ++ (decimal (length areas) ++ codes "\n")) ++ list_text files areas ≡ maps_text files areas
unfolding maps_text
maps_is files areas = append_assoc (codes "maps ") (decimal (length areas) ++ codes "\n") (list_text files areas)
    ∙ ap (λ (t : List ℕ). codes "maps " ++ t) (append_assoc (decimal (length areas)) (codes "\n") (list_text files areas))

-- into an empty piece: giving ended at the first of two texts
pub cut_first : (old new : SinkView) (held first second whole : List ℕ) (fault : PrintError) → held ≡ [] → first ++ second ≡ whole
    → IsCutOff old new held first fault → IsCutOff old new [] whole fault
cut_first old new held first second whole fault none all cut =
    subst (λ (h : List ℕ). IsCutOff old new h whole fault) none
    (subst (λ (t : List ℕ). IsCutOff old new held t fault) all (cut_more old new held first second fault cut))

-- it ended at the second
pub cut_second : (old mid new : SinkView) (held holds first second whole : List ℕ) (fault : PrintError) → held ≡ [] → first ++ second ≡ whole
    → Prints old mid held holds first → IsCutOff mid new holds second fault → IsCutOff old new [] whole fault
cut_second old mid new held holds first second whole fault none all printed cut =
    subst (λ (h : List ℕ). IsCutOff old new h whole fault) none
    (subst (λ (t : List ℕ). IsCutOff old new held t fault) all (cut_then old mid new held holds first second fault printed.moved cut))

-- both were printed
pub prints_both : (old mid new : SinkView) (held holds last first second whole : List ℕ) → held ≡ [] → first ++ second ≡ whole
    → Prints old mid held holds first → Prints mid new holds last second → Prints old new [] last whole
prints_both old mid new held holds last first second whole none all printed more =
    subst (λ (h : List ℕ). Prints old new h last whole) none
    (subst (λ (t : List ℕ). Prints old new held last t) all (prints_then old mid new held holds last first second printed more))

-- the text of a list that a child begins with
pub forked_is : (files : List FileRow) (op : Op) (content : Content) (child : ℕ) (areas shown : List Record) → op ≡ ops.Fork child
    → content ≡ contents.List areas → shown ≡ areas
    → codes "child " ++ (decimal child ++ (codes " areas " ++ (decimal (length shown) ++ codes "\n"))) ≡ result_text files (child_of op) content
unfolding forked_text
forked_is files op content child areas shown forks is same =
    ap (λ (l : List Record). codes "child " ++ (decimal child ++ (codes " areas " ++ (decimal (length l) ++ codes "\n")))) same
    ∙ ap (λ (o : Op). result_text files (child_of o) (contents.List areas)) (sym forks)
    ∙ ap (result_text files (child_of op)) (sym is)
