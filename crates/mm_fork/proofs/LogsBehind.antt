-- For `logs_behind`: logs so far.
use Rattle.std.proofs.Common.{ℕ, ◌≡◌, ◌+◌, ◌<◌, ◌≤◌, ◌∙◌, sym, ap, List, [], ◌∷◌, ◌++◌, length, get_or, map, take}
use Rattle.std.proofs.lemmas.List.{map_push, take_more, take_all}
use Rattle.mm_types.specs.declared.call.Seen.{Seen}
use Rattle.mm_fork.specs.Behind.{log_behind}

-- one log more, with versions counted from behind
pub logs_more : {V : Type 0} (f : V → List Seen) (version : ℕ) (logs : List V) (place : ℕ) (v w : V) (old new : List V)
    → map f old ≡ map (log_behind version) (map f (take place logs)) → new ≡ old ++ w ∷ [] → f w ≡ log_behind version (f v)
    → v ≡ get_or logs place v → place < length logs → map f new ≡ map (log_behind version) (map f (take (place + 1) logs))
logs_more {V} f version logs place v w old new so_far pushed is here within =
    let g : List Seen → List Seen = log_behind version in
    let front : List (List Seen) = map f (take place logs) in
    let taken : take place logs ++ v ∷ [] ≡ take (place + 1) logs =
    ap (λ (x : V). take place logs ++ x ∷ []) here ∙ sym (take_more logs place v within) in
    ap (map f) pushed ∙ map_push f old w ∙ ap (λ (l : List (List Seen)). l ++ f w ∷ []) so_far
    ∙ ap (λ (x : List Seen). map g front ++ x ∷ []) is ∙ sym (map_push g front (f v))
    ∙ ap (map g) (sym (map_push f (take place logs) v) ∙ ap (map f) taken)

pub logs_done : {V : Type 0} (f : V → List Seen) (version : ℕ) (logs : List V) (place : ℕ) (behind : List V)
    → map f behind ≡ map (log_behind version) (map f (take place logs)) → length logs ≤ place
    → map f behind ≡ map (log_behind version) (map f logs)
logs_done {V} f version logs place behind so_far past =
    so_far ∙ ap (λ (l : List V). map (log_behind version) (map f l)) (take_all place logs past)
