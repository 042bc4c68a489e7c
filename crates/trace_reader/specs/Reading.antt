-- What a reader answers: what its definition gives, unless memory runs out.
use Rattle.std.specs.Prelude.{ℕ, ◌≡◌, ◌≤◌, List, length, Result, Ok, Err, IfOk}
use Rattle.mm_types.specs.declared.config.Config.{Config}
use Rattle.mm_types.specs.declared.files.FileRow.{FileRow}
use Rattle.text_lexer.specs.declared.error.BadLine.{BadLine}
use Rattle.text_lexer.specs.declared.error.CallError.{CallError}
use Rattle.text_lexer.specs.declared.error.CallError.TheVariants as calls
use Rattle.text_lexer.specs.declared.error.ReadError.{ReadError}
use Rattle.text_lexer.specs.Lines.{RawLine, text_of}
use Rattle.text_lexer.specs.Words.{words_of}
use Rattle.text_lexer.specs.Reading.{IsErrorOf}
use Rattle.trace_reader.specs.declared.builder.Settings.{Settings}
use Rattle.trace_reader.specs.declared.builder.TraceBuilder.{TraceBuilder}
use Rattle.trace_reader.specs.declared.trace.Trace.{Trace}
use Rattle.trace_reader.specs.Grammar.{nothing, config_of}
use Rattle.trace_reader.specs.Lines.{SoFar}

-- what was answered of a whole trace is what the definition gives
abbrev pub GivesTrace : Result Trace ReadError → Result Trace BadLine → Type 0
GivesTrace (Ok trace) read = read ≡ Ok trace
GivesTrace (Err error) read = IsErrorOf error read

-- what a builder holds
abbrev pub so_far : TraceBuilder → SoFar
so_far builder = record {
  version = builder.settings.version;
  areas = builder.settings.areas;
  top = builder.settings.top;
  min = builder.settings.min;
  heap = builder.settings.heap;
  files = builder.files.items;
  lines = builder.lines.items;
  children = builder.children.items;
  maps = builder.maps;
  named = builder.named;
}

-- the configuration that settings name, with these files
abbrev pub config_named : Settings → List FileRow → Config
config_named settings files = config_of (record nothing {
  version = settings.version;
  areas = settings.areas;
  top = settings.top;
  min = settings.min;
  heap = settings.heap;
  files = files;
})

-- where a line was bad, what is held stays as it was; where memory ran out, it is free
abbrev pub StaysIfBad : {A : Type 0} → Result A CallError → SoFar → SoFar → Type 0
StaysIfBad (Ok x) before after = Unit {0}
StaysIfBad (Err (calls.Bad cause)) before after = after ≡ before
StaysIfBad (Err calls.NoMemory) before after = Unit {0}

-- so much room is enough for the words of a line, where it has a text
abbrev pub HasRoomForWords : ℕ → RawLine → Type 0
HasRoomForWords room line = IfOk (text_of line) (λ text. length (words_of text) ≤ room)

-- what was answered to lines, of which the first bad one has its number
abbrev pub GivesLines : Result TraceBuilder ReadError → Result SoFar BadLine → Type 0
GivesLines (Ok builder) read = read ≡ Ok (so_far builder)
GivesLines (Err error) read = IsErrorOf error read
