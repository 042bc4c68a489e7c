-- Parts of the lines of output.
use Rattle.std.specs.Prelude.{ℕ, zero, suc, Bool, List, [], ◌++◌, codes, decimal, Option, Some, None, Result, Ok, Err, if◌then◌else◌}

-- what an event results in: why it is refused, or else what it finds
abbrev pub event_outcome : {A R : Type 0} → Option R → A → Result A R
event_outcome None found = Ok found
event_outcome (Some reason) found = Err reason

-- the state that an event leaves: where it is refused, the one before it
abbrev pub state_after : {R S : Type 0} → Option R → S → S → S
state_after None before after = after
state_after (Some reason) before after = before

-- the texts of the numbers from 0 up to this one, which is left out, one after another
abbrev pub texts_below : ℕ → (ℕ → List ℕ) → List ℕ
texts_below zero text = []
texts_below (suc count) text = texts_below count text ++ text count

-- a number after a space
abbrev pub spaced : ℕ → List ℕ
spaced n = codes " " ++ decimal n

-- each of so many numbers of which this is true, after a space
unfoldable pub numbers_text : ℕ → (ℕ → Bool) → List ℕ
numbers_text count is = texts_below count (λ n. if is n then spaced n else [])

-- the start of a line: `L<line> `
unfoldable pub event_start : ℕ → List ℕ
event_start number = codes "L" ++ (decimal number ++ codes " ")

-- a refusal: `refused <number> <name>`, and its value after a space, if it has one
unfoldable pub refusal_text : List ℕ → Option ℕ → List ℕ
refusal_text name None = codes "refused " ++ name
refusal_text name (Some value) = codes "refused " ++ (name ++ (codes " " ++ decimal value))
