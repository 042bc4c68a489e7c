-- The proof of `line_len`: what was searched has no newline.
use Rattle.std.proofs.Common.{◌≡◌, ◌-◌, ℕ, List, Option, Some, None, drop, length, subst, take}
use Rattle.std.proofs.lemmas.List.{take_rest}
use Rattle.memchr.specs.Find.{IsFirstByte, is_byte}
use Rattle.live_session.specs.Internal.Held.{HeldLineView, HasNoNewline}
use Rattle.live_session.proofs.Newlines.{found_behind}
use Rattle.live_session.proofs.held.Held.line_len.Goals as goal

-- what was searched is a front of the bytes
front : (held : HeldLineView) (bytes : List ℕ) (turns searched : ℕ) → record { bytes = bytes; searched = searched; turns = turns } ≡ held → HasNoNewline (take searched bytes)
    → HasNoNewline (take searched held.bytes)
front held bytes turns searched is none = subst (λ (h : HeldLineView). HasNoNewline (take searched h.bytes)) is none

-- the search was that of the rest
rest : (bytes all : List ℕ) (searched : ℕ) (found : Option ℕ) → all ≡ bytes → IsFirstByte (is_byte 10) (take (length all - searched) (drop searched all)) found
    → IsFirstByte (is_byte 10) (drop searched bytes) found
rest bytes all searched found is first = subst (λ (l : List ℕ). IsFirstByte (is_byte 10) (drop searched l) found) is
    (subst (λ (l : List ℕ). IsFirstByte (is_byte 10) l found) (take_rest all searched) first)

pub returns-in-Some : goal.returns-in-Some
returns-in-Some c =
    found_behind c.args.self.now.bytes c.self.inside.searched (Some c.in-Some.len)
    (front c.args.self.now (drop c.self.inside.at c.self.inside.bytes.items) c.self.inside.turns c.self.inside.searched c.self.view_is c.self.invariant.none)
    (rest c.args.self.now.bytes c.bytes.result.now c.self.inside.searched (Some c.in-Some.len) c.bytes.ensures c.in-Some.ensures)

pub returns-in-None : goal.returns-in-None
returns-in-None c =
    found_behind c.args.self.now.bytes c.self.inside.searched None
    (front c.args.self.now (drop c.self.inside.at c.self.inside.bytes.items) c.self.inside.turns c.self.inside.searched c.self.view_is c.self.invariant.none)
    (rest c.args.self.now.bytes c.bytes.result.now c.self.inside.searched None c.bytes.ensures c.in-None.ensures)
