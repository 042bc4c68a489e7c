-- For `deal` of store.rt: its goals.
use Rattle.std.proofs.Common.{◌≡◌, ◌<◌, ◌++◌, ◌==◌, false, ℕ, [], ◌∷◌, List, length, take, drop, sym, ap, ◌∙◌, subst, All, arith, append_assoc}
use Rattle.std.proofs.lemmas.Bool.Decides.{nat_tests}
use Rattle.std.proofs.lemmas.List.{append-nil, take-append-drop}
use Rattle.std.proofs.lemmas.List.Elements.{All-append, All-cons, All-nil}
use Rattle.mm_types.specs.declared.area.Record.{Record}
use Rattle.plain_space.specs.Internal.Chunks.{areas_in_chunks, IsFilled}
use Rattle.plain_space.proofs.Parting.{areas_of-append}
use Rattle.plain_space.proofs.store.deal.Goals as goal

-- with one chunk more the areas and the rest are what they were
dealt : (chunks : List (List Record)) (chunk part tail rest areas : List Record) (count : ℕ) → chunk ≡ part → part ≡ take count rest → tail ≡ drop count rest
    → areas_in_chunks chunks ++ rest ≡ areas → areas_in_chunks (chunks ++ (chunk ∷ [])) ++ tail ≡ areas
dealt chunks chunk part tail rest areas count first second third whole =
    ap (λ list. list ++ tail) (areas_of-append chunks (chunk ∷ []) ∙ ap (λ list. areas_in_chunks chunks ++ list) (append-nil chunk))
    ∙ append_assoc (areas_in_chunks chunks) chunk tail
    ∙ ap (λ list. areas_in_chunks chunks ++ list) (ap (λ list. list ++ tail) (first ∙ second) ∙ ap (λ list. take count rest ++ list) third ∙ take-append-drop count rest)
    ∙ whole

some_left : (count : ℕ) → (count == 0) ≡ false → 0 < count
some_left count is = grind (arith, nat_tests)

pub loop-rest-preserved : goal.loop-rest-preserved
loop-rest-preserved c =
    let rest : List Record = c.loop-rest.rest.now in
    let some : 0 < length rest = some_left (length rest) (sym c.is_empty.ensures ∙ c.loop-rest-test.true) in
    let filled : IsFilled c.fill.new.self =
    (omega (arith, ap length c.fill.ensures, c.split_at.ensures.front_len, c.min.ensures, some), omega (arith, ap length c.fill.ensures, c.split_at.ensures.front_len, c.min.ensures)) in
    record {
      areas = ap (λ list. areas_in_chunks list ++ c.split_at.result.1.now) c.push_reserved.ensures.items
          ∙ dealt c.loop-rest.chunks.items c.fill.new.self c.split_at.result.0.now c.split_at.result.1.now rest c.args.areas.now c.min.result
          c.fill.ensures c.split_at.ensures.front c.split_at.ensures.back c.loop-rest.invariant.areas;
      filled = subst (λ (list : List (List Record)). All IsFilled list) (sym c.push_reserved.ensures.items)
          (All-append IsFilled c.loop-rest.chunks.items (c.fill.new.self ∷ []) c.loop-rest.invariant.filled (All-cons IsFilled c.fill.new.self [] filled (All-nil IsFilled)));
      total = omega (arith, c.push_reserved.ensures.len, c.in-Some.ensures.cases, c.loop-rest.invariant.total);
      room = c.push_reserved.ensures.capacity ∙ c.loop-rest.invariant.room;
      spare_room = c.pop.ensures.capacity ∙ c.loop-rest.invariant.spare_room;
      halves = λ more. omega (
        arith,
        c.push_reserved.ensures.len,
        c.loop-rest.invariant.halves some,
        c.split_at.ensures.back_len,
        c.min.ensures,
        more,
      );
    }
