-- For `plain_trace`: what is read, by the first line that forks.
use Rattle.std.proofs.Common.{◌≡◌, ℕ, List, Option, Result, ap, sym, subst, ◌∙◌}
use Rattle.text_lexer.specs.declared.error.BadLine.{BadLine}
use Rattle.text_lexer.specs.declared.error.ReadError.{ReadError}
use Rattle.text_lexer.specs.Lines.{raw_lines}
use Rattle.trace_reader.specs.declared.trace.Trace.{Trace}
use Rattle.trace_reader.specs.Grammar.{trace_of}
use Rattle.trace_reader.specs.Reading.{GivesTrace}
use Rattle.output.specs.Internal.Forks.{first_fork, without_forks}
use Rattle.output.specs.Input.{plain_trace_of}
use Rattle.output.proofs.Children.{plain_is}

pub plain_read : (bytes : List ℕ) (fork : Option ℕ) (read result : Result Trace ReadError) → fork ≡ first_fork (raw_lines bytes)
    → ((all : Result Trace BadLine) → GivesTrace read all → GivesTrace result (without_forks fork all))
    → GivesTrace read (trace_of bytes) → GivesTrace result (plain_trace_of bytes)
plain_read bytes fork read result found gives is_read =
    let same : without_forks fork (trace_of bytes) ≡ plain_trace_of bytes =
    ap (λ (f : Option ℕ). without_forks f (trace_of bytes)) found ∙ sym (plain_is bytes) in
    subst (λ (all : Result Trace BadLine). GivesTrace result all) same (gives (trace_of bytes) is_read)
