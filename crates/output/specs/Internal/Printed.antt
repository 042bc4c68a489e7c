-- The lines that an item is printed as.
use Rattle.std.specs.Prelude.{ℕ, ◌≡◌, Bool, true, not, ◌&&◌, List, [], ◌∷◌, ◌++◌, length, codes, decimal, Option, Some, None}
use Rattle.mm_types.specs.declared.area.Record.{Record}
use Rattle.mm_types.specs.declared.files.FileRow.{FileRow}
use Rattle.mm_types.specs.MapsText.{list_text}
use Rattle.history.specs.declared.items.Content.{Content}
use Rattle.history.specs.declared.items.Content.TheVariants as contents
use Rattle.text_lexer.specs.Lines.{is_newline}
use Rattle.output.specs.Output.{reply_text, verdict_text, forked_text}
use Rattle.output.specs.declared.answers.Answer.{Answer}
use Rattle.output.specs.declared.answers.Answer.TheVariants as answers

-- an answer as the content of an item, where a list is this one
abbrev pub content_of_answer : List Record → Answer → Content
content_of_answer areas (answers.Called call reply) = contents.Called call reply
content_of_answer areas (answers.Fault page access verdict) = contents.Fault page access verdict
content_of_answer areas answers.List = contents.List areas

-- whether bytes have no newline
abbrev pub has_none : List ℕ → Bool
has_none [] = true
has_none (c ∷ text) = not (is_newline c) && has_none text

-- bytes without a newline
pub record IsOfOneLine (text : List ℕ) : Type 0 where
  pub none : has_none text ≡ true

-- bytes with one newline, which ends them
pub record IsLine (line : List ℕ) : Type 0 where
  pub body : List ℕ
  pub plain : IsOfOneLine body
  pub is : line ≡ body ++ codes "\n"

-- what the first line of an item has behind its start, where its line forks this child, if it forks one
abbrev pub first_text : Option ℕ → Content → List ℕ
first_text child (contents.Called call reply) = reply_text reply ++ codes "\n"
first_text child (contents.Fault page access verdict) = verdict_text verdict ++ codes "\n"
first_text None (contents.List areas) = codes "maps " ++ (decimal (length areas) ++ codes "\n")
first_text (Some child) (contents.List areas) = forked_text child areas

-- its other lines
abbrev pub more_text : List FileRow → Option ℕ → Content → List ℕ
more_text files child (contents.Called call reply) = []
more_text files child (contents.Fault page access verdict) = []
more_text files None (contents.List areas) = list_text files areas
more_text files (Some child) (contents.List areas) = []
