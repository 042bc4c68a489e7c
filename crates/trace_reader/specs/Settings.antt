-- The lines before the first one with a thread: `limit`, `top`, `min`, `heap` and `file`.
use Rattle.std.specs.Prelude.{ℕ, List, [], ◌∷◌, codes, bytes_eq, Result, Ok, Err, if◌then◌else◌}
use Rattle.std.specs.Str.{byte}
use Rattle.mm_types.specs.declared.config.TheConstants.{MOST_AREAS}
use Rattle.mm_types.specs.declared.files.FileRow.{FileRow}
use Rattle.trace_reader.specs.declared.settings.FileFields.{FileFields}
use Rattle.text_lexer.specs.declared.error.Cause.{Cause}
use Rattle.text_lexer.specs.declared.error.Cause.TheVariants.{Word, Arity}
use Rattle.trace_reader.specs.declared.limits.TheConstants.{MOST_FILE_BYTES}
use Rattle.text_lexer.specs.Causes.{◌>>=◌}
use Rattle.text_lexer.specs.Numbers.{number, number_in}
use Rattle.trace_reader.specs.Fields.{bound, descriptor, read_device, mode}

-- N, from the words after `areas`
unfoldable pub read_area_limit : List (List ℕ) → Result ℕ Cause
read_area_limit (count ∷ []) = number_in 1 MOST_AREAS count
read_area_limit _ = Err Arity

-- `limit areas N`, from the words after `limit`
unfoldable pub limit_of : List (List ℕ) → Result ℕ Cause
limit_of [] = Err Arity
limit_of (what ∷ words) = if bytes_eq what (codes "areas") then read_area_limit words else Err Word

-- `top A`, `min A` or `heap A`, from the words after the first
unfoldable pub bound_of : List (List ℕ) → Result ℕ Cause
bound_of (address ∷ []) = bound address
bound_of _ = Err Arity

-- a path, in which the four characters `\012` stand for a newline
unfoldable pub unescaped : List ℕ → List ℕ
unescaped (a ∷ b ∷ c ∷ d ∷ text) = if bytes_eq (a ∷ b ∷ c ∷ d ∷ []) (codes "\\012") then byte "\n" ∷ unescaped text
    else a ∷ unescaped (b ∷ c ∷ d ∷ text)
unescaped text = text

-- the fields of these words, of which MAJ:MIN are the halves
unfoldable pub file_fields : List ℕ → List ℕ → List ℕ → List ℕ → List ℕ → Result FileFields Cause
file_fields fd open_for size halves inode = do
  f ← descriptor fd
  m ← mode open_for
  s ← number_in 0 MOST_FILE_BYTES size
  d ← read_device halves
  i ← number inode
  Ok (record { fd = f; read = m.0; write = m.1; size = s; major = d.0; minor = d.1; inode = i })

-- the file of these fields and of the text of its path
abbrev pub with_path : FileFields → List ℕ → FileRow
with_path fields path = record {
  fd = fields.fd;
  read = fields.read;
  write = fields.write;
  size = fields.size;
  major = fields.major;
  minor = fields.minor;
  inode = fields.inode;
  path = unescaped path;
}

-- `file FD MODE SIZE MAJ:MIN INODE PATH`, from the words after `file`: all but the path, of which there is a word
unfoldable pub read_file_fields : List (List ℕ) → Result FileFields Cause
read_file_fields (fd ∷ open_for ∷ size ∷ halves ∷ inode ∷ first_of_path ∷ more) = file_fields fd open_for size halves inode
read_file_fields _ = Err Arity

-- the file of these words, and of the text after INODE
unfoldable pub read_file : List (List ℕ) → List ℕ → Result FileRow Cause
read_file words path = read_file_fields words >>= λ fields. Ok (with_path fields path)
