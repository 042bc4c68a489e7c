-- For `divide` of store.rt: its goals.
use Rattle.std.proofs.Common.{◌≡◌, ◌<◌, ◌-◌, ◌/◌, ◌++◌, true, ℕ, [], List, length, take, drop, get_or, sym, ap, ◌∙◌, subst, All, arith}
use Rattle.std.specs.Result.{is_ok}
use Rattle.std.proofs.lemmas.Bool.{cond-true}
use Rattle.std.proofs.lemmas.List.{get_or_read, take_rest, take-append-drop}
use Rattle.mm_types.specs.declared.area.Record.{Record}
use Rattle.plain_space.specs.Internal.Chunks.{areas_in_chunks, IsFilled}
use Rattle.plain_space.proofs.Filling.{divided_areas, divided_filled, lower_filled, upper_filled}
use Rattle.plain_space.proofs.store.divide.Goals as goal

-- what is written into the upper chunk
upper_is : (chunk whole shown upper : List Record) (half : ℕ) → whole ≡ chunk → shown ≡ whole → upper ≡ take (length shown - half) (drop half shown)
    → upper ≡ drop half chunk
upper_is chunk whole shown upper half first second third = third ∙ take_rest shown half ∙ ap (drop half) (second ∙ first)

pub returns-clause-areas : goal.returns-clause-areas
returns-clause-areas c =
    let chunks : List (List Record) = c.args.chunks.now.items in
    let place = c.args.place in
    let len : c.args.chunks.now.len ≡ length chunks = c.args.chunks.now.ok.0 in
    let within : place < length chunks = omega (arith, len, c.requires.within) in
    let chunk : List Record = get_or chunks place [] in
    let read = get_or_read chunks place c.index_mut-lower.result.now within c.index_mut-lower.ensures.value [] in
    let half : ℕ = length c.areas.result.now / 2 in
    let lower = c.keep_first.ensures ∙ ap (take half) read in
    let upper = upper_is chunk c.index_mut-lower.result.now c.areas-2.result.now c.fill.new.self half read c.areas-2.ensures c.fill.ensures in
    let fits : is_ok c.insert-fits.result ≡ true = c.insert-fits.ensures.succeeds c.requires.room in
    ap areas_in_chunks (c.insert-fits.ensures.items ∙ cond-true _ _ _ fits)
    ∙ divided_areas chunks place c.keep_first.new.self c.fill.new.self within
    (ap (λ list. list ++ c.fill.new.self) lower ∙ ap (λ list. take half chunk ++ list) upper ∙ take-append-drop half chunk)

pub returns-clause-filled : goal.returns-clause-filled
returns-clause-filled c =
    let chunks : List (List Record) = c.args.chunks.now.items in
    let place = c.args.place in
    let len : c.args.chunks.now.len ≡ length chunks = c.args.chunks.now.ok.0 in
    let within : place < length chunks = omega (arith, len, c.requires.within) in
    let chunk : List Record = get_or chunks place [] in
    let read = get_or_read chunks place c.index_mut-lower.result.now within c.index_mut-lower.ensures.value [] in
    let half : ℕ = length c.areas.result.now / 2 in
    let is : half ≡ length chunk / 2 = ap (λ list. length list / 2) (c.areas.ensures ∙ read) in
    let lower = c.keep_first.ensures ∙ ap (take half) read in
    let upper = upper_is chunk c.index_mut-lower.result.now c.areas-2.result.now c.fill.new.self half read c.areas-2.ensures c.fill.ensures in
    let fits : is_ok c.insert-fits.result ≡ true = c.insert-fits.ensures.succeeds c.requires.room in
    subst (λ (list : List (List Record)). All IsFilled list) (sym (c.insert-fits.ensures.items ∙ cond-true _ _ _ fits))
    (divided_filled chunks place c.keep_first.new.self c.fill.new.self within c.requires.others
    (subst IsFilled (sym lower) (lower_filled chunk half is c.requires.large c.requires.most))
    (subst IsFilled (sym upper) (upper_filled chunk half is c.requires.large c.requires.most)))
