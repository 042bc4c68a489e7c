-- For `set_words`: its goals.
use Rattle.std.proofs.Common.{◌≡◌, ◌<◌, ◌∙◌, sym, ap, subst, List, ℕ, map, length, vec_capacity, arith, rules}
use Rattle.std.proofs.lemmas.Bool.Decides.{nat_tests}
use Rattle.std.proofs.lemmas.List.{length-map, map_push}
use denote.Bor.{Bor}
use Rattle.text_lexer.specs.Words.{words_of, after_blanks, after_word}
use Rattle.text_lexer.proofs.WordParts.{IsAtWord, words_start, words_more, words_left, words_end, rest_shorter, after_blanks-at_word}
use Rattle.text_lexer.proofs.words.set_words.Goals as goal

pub loop-rest-init : goal.loop-rest-init
loop-rest-init c = (
  c.after_blanks-rest.utf8,
  words_start _ c.args.text.now c.after_blanks-rest.result.now
      (ap (map (λ word. word.now)) c.clear.ensures.items) c.after_blanks-rest.ensures,
  subst IsAtWord (sym c.after_blanks-rest.ensures) (after_blanks-at_word c.args.text.now),
  omega (arith, c.clear.ensures.capacity),
)

pub loop-rest-smaller : goal.loop-rest-smaller
loop-rest-smaller c =
    let some : 0 < length c.loop-rest.rest.now = grind (arith, nat_tests, c.is_empty.ensures, c.loop-rest-test.true) in
    let next : c.after_blanks-rest-in-loop-rest.result.now ≡ after_blanks (after_word c.loop-rest.rest.now) =
    c.after_blanks-rest-in-loop-rest.ensures ∙ ap after_blanks c.split_word.ensures.rest in
    subst (λ (text : List ℕ). length text < length c.loop-rest.rest.now) (sym next)
    (rest_shorter c.loop-rest.rest.now some c.loop-rest.invariant.2)

pub loop-rest-preserved : goal.loop-rest-preserved
loop-rest-preserved c =
    let some : 0 < length c.loop-rest.rest.now = grind (arith, nat_tests, c.is_empty.ensures, c.loop-rest-test.true) in
    let next : c.after_blanks-rest-in-loop-rest.result.now ≡ after_blanks (after_word c.loop-rest.rest.now) =
    c.after_blanks-rest-in-loop-rest.ensures ∙ ap after_blanks c.split_word.ensures.rest in (
      c.after_blanks-rest-in-loop-rest.utf8,
      rw (c.in_ok-push.ensures.items, map_push) (words_more _ _ c.loop-rest.rest.now c.split_word.result.0.now
          c.after_blanks-rest-in-loop-rest.result.now some c.loop-rest.invariant.2 c.loop-rest.invariant.1
          c.split_word.ensures.word next),
      subst IsAtWord (sym c.after_blanks-rest-in-loop-rest.ensures) (after_blanks-at_word c.split_word.result.1.now),
      omega (arith, c.loop-rest.invariant.3, c.in_ok-push.ensures.capacity),
    )

pub returns-in_err-push-clause-room : goal.returns-in_err-push-clause-room
returns-in_err-push-clause-room c =
    let some : 0 < length c.loop-rest.rest.now = grind (arith, nat_tests, c.is_empty.ensures, c.loop-rest-test.true) in
    let before = map (λ (word : Bor (List ℕ)). word.now) c.loop-rest.words.items in
    let more : length before < length (words_of c.args.text.now) =
    words_left before (words_of c.args.text.now) c.loop-rest.rest.now some c.loop-rest.invariant.2 c.loop-rest.invariant.1 in
    let few : vec_capacity c.args.words.now < length (words_of c.args.text.now) =
    omega (arith, length-map c.loop-rest.words.items (λ (word : Bor (List ℕ)). word.now), c.loop-rest.invariant.3, c.in_err-push.ensures.full) in
    search rules

pub returns-clause-words : goal.returns-clause-words
returns-clause-words c =
    let none : length c.loop-rest.rest.now ≡ 0 = grind (arith, nat_tests, c.is_empty.ensures, c.loop-rest-test.false) in
    words_end _ _ c.loop-rest.rest.now none c.loop-rest.invariant.1
