-- The proof of `Given::expect_maps`: how many areas there are is one line, and the lines of the areas stand behind it.
use Rattle.std.proofs.Common.{ℕ, ◌≡◌, ◌++◌, List, sym, subst, length, codes, decimal}
use Rattle.mm_types.specs.declared.area.Record.{Record}
use Rattle.mm_types.specs.MapsText.{list_text}
use Rattle.output.specs.Output.{maps_text}
use Rattle.output.specs.Internal.Printed.{IsLine}
use Rattle.output.specs.Internal.Judging.{HasRead, IsBadAt}
use Rattle.output.proofs.ItemLines.{count_line, count_printed, maps_is}
use Rattle.output.proofs.Stopped.{two_parts, two_stop, stop_more, err_is, on_ok, if_err}
use Rattle.output.proofs.given.Given.expect_maps.Goals as goal

pub expect-requires-clause-line : goal.expect-requires-clause-line
expect-requires-clause-line c =
    let areas : List Record = c.args.space.now.space.areas in
    let first : List ℕ = codes "maps " ++ (decimal (length areas) ++ codes "\n") in
    let is : c.as_slice.result.now ≡ first =
    count_printed _ _ _ _ _ c.as_slice.ensures.value c.in_ok-push_count.ensures.ok c.clear.ensures.items c.area_count.ensures in
    subst (λ (l : List ℕ). IsLine l) (sym is) (count_line (length areas))

pub returns-in_err-expect-clause-bad : goal.returns-in_err-expect-clause-bad
returns-in_err-expect-clause-bad c = λ text before read.
    let areas : List Record = c.args.space.now.space.areas in
    let first : List ℕ = codes "maps " ++ (decimal (length areas) ++ codes "\n") in
    let more : List ℕ = list_text c.args.files.now areas in
    let is : c.as_slice.result.now ≡ first =
    count_printed _ _ _ _ _ c.as_slice.ensures.value c.in_ok-push_count.ensures.ok c.clear.ensures.items c.area_count.ensures in
    err_is _ c.in_err-expect.field-0.0 (IsBadAt text (before ++ maps_text c.args.files.now areas)) c.from_residual-in_err-expect.ensures.1
    (two_stop text before first more (maps_text c.args.files.now areas) c.in_err-expect.field-0.0 (maps_is c.args.files.now areas)
    (stop_more text (before ++ first) more c.in_err-expect.field-0.0
    (subst (λ (t : List ℕ). IsBadAt text (before ++ t) c.in_err-expect.field-0.0) is (c.in_err-expect.ensures.bad text before read))))

pub returns-clause-ok : goal.returns-clause-ok
returns-clause-ok c = λ text before read.
    let areas : List Record = c.args.space.now.space.areas in
    let first : List ℕ = codes "maps " ++ (decimal (length areas) ++ codes "\n") in
    let more : List ℕ = list_text c.args.files.now areas in
    let is : c.as_slice.result.now ≡ first =
    count_printed _ _ _ _ _ c.as_slice.ensures.value c.in_ok-push_count.ensures.ok c.clear.ensures.items c.area_count.ensures in
    on_ok c.expect_listed.result _ _
    (two_parts text before first more (maps_text c.args.files.now areas) c.expect_listed.new.self
    (maps_is c.args.files.now areas))
    (c.expect_listed.ensures.ok text (before ++ first)
    (subst (λ (t : List ℕ). HasRead text (before ++ t) c.expect.new.self) is (c.in_ok-expect.ensures.ok text before read)))

pub returns-clause-bad : goal.returns-clause-bad
returns-clause-bad c = λ text before read.
    let areas : List Record = c.args.space.now.space.areas in
    let first : List ℕ = codes "maps " ++ (decimal (length areas) ++ codes "\n") in
    let more : List ℕ = list_text c.args.files.now areas in
    let is : c.as_slice.result.now ≡ first =
    count_printed _ _ _ _ _ c.as_slice.ensures.value c.in_ok-push_count.ensures.ok c.clear.ensures.items c.area_count.ensures in
    if_err c.expect_listed.result (IsBadAt text ((before ++ first) ++ more)) (IsBadAt text (before ++ maps_text c.args.files.now areas))
    (λ stop bad. two_stop text before first more (maps_text c.args.files.now areas) stop
    (maps_is c.args.files.now areas) bad)
    (c.expect_listed.ensures.bad text (before ++ first)
    (subst (λ (t : List ℕ). HasRead text (before ++ t) c.expect.new.self) is (c.in_ok-expect.ensures.ok text before read)))
