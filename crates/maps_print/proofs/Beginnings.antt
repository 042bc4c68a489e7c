-- For `push_line`, `push_list`, `push_range` and what they call: where an append that stops leaves a beginning of its text.
use Rattle.std.proofs.Common.{◌≡◌, ℕ, ◌-◌, ◌+◌, ◌≤◌, ◌<◌, List, [], ◌++◌, length, take, drop, append_assoc, append-nil, take-append-drop, sym, ap, ◌∙◌, arith, length-append}
use Rattle.std.proofs.Math.Seq.{take-append_seam, take-append-add}
use Rattle.std.specs.Prelude.{Result, Ok, Err, OnErr}
use Rattle.mm_types.specs.declared.memory.NoMemory.{NoMemory}
use Rattle.maps_print.specs.Appends.{AppendsFront}

-- what holds is what an error is to leave
pub on_err : (answer : Result (Unit {0}) NoMemory) (P : Type 0) → P → OnErr answer P
on_err (Ok done) P holds = tt
on_err (Err error) P holds = holds

-- what was added is the first part of the text
pub front_of_parts : (old new added rest text : List ℕ) → new ≡ old ++ added → added ++ rest ≡ text → AppendsFront old new text
front_of_parts old new added rest text adds whole = record {
  count = length added;
  front = adds ∙ ap (λ front. old ++ front) (sym (take-append_seam added rest) ∙ ap (take (length added)) whole);
}

-- all of it was added
pub front_of_all : (old new text : List ℕ) → new ≡ old ++ text → AppendsFront old new text
front_of_all old new text adds = front_of_parts old new text [] text adds (append-nil text)

-- a beginning that was added is still there
pub front_of_same : (old mid new text : List ℕ) → new ≡ mid → AppendsFront old mid text → AppendsFront old new text
front_of_same old mid new text same stopped = record { count = stopped.count; front = same ∙ stopped.front }

-- a beginning of the first part is a beginning of the whole
pub front_of_first : (old new a b : List ℕ) → AppendsFront old new a → AppendsFront old new (a ++ b)
front_of_first old new a b stopped = front_of_parts old new (take stopped.count a) (drop stopped.count a ++ b) (a ++ b)
    stopped.front (sym (append_assoc (take stopped.count a) (drop stopped.count a) b) ∙ ap (λ first. first ++ b) (take-append-drop stopped.count a))

-- the first part and a beginning of the second are a beginning of the whole
pub front_of_second : (old mid new a b : List ℕ) → mid ≡ old ++ a → AppendsFront mid new b → AppendsFront old new (a ++ b)
front_of_second old mid new a b first stopped = front_of_parts old new (a ++ take stopped.count b) (drop stopped.count b) (a ++ b)
    (stopped.front ∙ ap (λ front. front ++ take stopped.count b) first ∙ append_assoc old a (take stopped.count b))
    (append_assoc a (take stopped.count b) (drop stopped.count b) ∙ ap (λ second. a ++ second) (take-append-drop stopped.count b))

-- a loop that appends: what is there and what is left are what was there and the whole
pub record IsAppending (old now left whole : List ℕ) : Type 0 where
  pub text : now ++ left ≡ old ++ whole
  pub longer : length old ≤ length now

-- where the loop stops, a beginning was added
pub front_of_loop : (old now left whole : List ℕ) → IsAppending old now left whole → AppendsFront old now whole
front_of_loop old now left whole so_far = record {
  count = length now - length old;
  front = sym (take-append_seam now left) ∙ ap (take (length now)) so_far.text
      ∙ ap (λ count. take count (old ++ whole)) (let longer = so_far.longer in let split : length now ≡ length old + (length now - length old) = omega arith in split)
      ∙ take-append-add old whole (length now - length old);
}

-- and where it stops within the next part, too
pub front_after_loop : (old now new next rest left whole : List ℕ) → IsAppending old now left whole → left ≡ next ++ rest
    → AppendsFront now new next → AppendsFront old new whole
front_after_loop old now new next rest left whole so_far parts stopped =
    front_of_loop old new (drop stopped.count next ++ rest) whole (record {
      text = ap (λ text. text ++ (drop stopped.count next ++ rest)) stopped.front
          ∙ append_assoc now (take stopped.count next) (drop stopped.count next ++ rest)
          ∙ ap (λ text. now ++ text) (sym (append_assoc (take stopped.count next) (drop stopped.count next) rest)
          ∙ ap (λ text. text ++ rest) (take-append-drop stopped.count next) ∙ sym parts)
          ∙ so_far.text;
      longer = let long = length-append now (take stopped.count next) in let same = ap length stopped.front in
          let longer = so_far.longer in omega arith;
    })

-- where the loop had no room for the next part, there was none for the whole
pub no_room_in_loop : (old now next rest left whole : List ℕ) (held count before room : ℕ) → IsAppending old now left whole → left ≡ next ++ rest
    → held ≡ length old → count ≡ length now → before ≤ room → room < count + length next → before < held + length whole
no_room_in_loop old now next rest left whole held count before room so_far parts is_held is_count stays full =
    let all : length now + length left ≡ length old + length whole =
    sym (length-append now left) ∙ ap length so_far.text ∙ length-append old whole in
    let some : length left ≡ length next + length rest = ap length parts ∙ length-append next rest in
    omega (arith, all, some, is_held, is_count, stays, full)

-- the same where a beginning of the next part was added
pub no_room_after_loop : (old now new next rest left whole : List ℕ) (held count before room : ℕ) → IsAppending old now left whole → left ≡ next ++ rest
    → AppendsFront now new next → held ≡ length old → count ≡ length now → before ≤ room → room < count + length next → before < held + length whole
no_room_after_loop old now new next rest left whole held count before room so_far parts stopped =
    no_room_in_loop old now next rest left whole held count before room so_far parts
