-- For `Store::insert_at` of store.rt: its goals.
use Rattle.std.proofs.Common.{◌≡◌, ◌≤◌, ◌<◌, [], List, length, set, get_or, refl, sym, ap, ◌∙◌, arith}
use Rattle.std.proofs.lemmas.Bool.{leb-true, leb-false}
use Rattle.std.proofs.lemmas.List.{get_or_read, get_or-set_same}
use Rattle.std.proofs.lemmas.List.Elements.{All-set}
use Rattle.mm_types.specs.declared.area.Record.{Record}
use Rattle.area_list.specs.Changes.{insert_area}
use Rattle.plain_space.specs.Internal.Chunks.{areas_in_chunks, IsFilled}
use Rattle.plain_space.proofs.Filling.{others_filled, one_longer, one_longer_at}
use Rattle.plain_space.proofs.store.Store.insert_at.Goals as goal

pub relieve-requires-clause-large : goal.relieve-requires-clause-large
relieve-requires-clause-large c =
    let chunks : List (List Record) = c.args.self.now.chunks.items in
    let place = c.args.place in
    let len : c.args.self.now.chunks.len ≡ length chunks = c.args.self.now.chunks.ok.0 in
    let within : place < length chunks = omega (arith, len, c.requires.within) in
    let large : 128 ≤ length c.insert.new.self = leb-true 128 (length c.insert.new.self) (sym c.is_large.ensures ∙ c.if-is_large.true) in
    omega (arith, ap length (get_or-set_same chunks place c.insert.new.self [] within), large)

pub relieve-requires-clause-most : goal.relieve-requires-clause-most
relieve-requires-clause-most c =
    let chunks : List (List Record) = c.args.self.now.chunks.items in
    let place = c.args.place in
    let len : c.args.self.now.chunks.len ≡ length chunks = c.args.self.now.chunks.ok.0 in
    let within : place < length chunks = omega (arith, len, c.requires.within) in
    let read = get_or_read chunks place c.index_mut-chunk.result.now within c.index_mut-chunk.ensures.value [] in
    let changed = c.insert.ensures ∙ ap (insert_area c.args.new) read in
    omega (
      arith,
      ap length (get_or-set_same chunks place c.insert.new.self [] within),
      ap length changed,
      one_longer c.args.new (get_or chunks place []),
      (c.requires.sane.filled place [] within).1,
    )

pub relieve-requires-clause-others : goal.relieve-requires-clause-others
relieve-requires-clause-others c =
    let chunks : List (List Record) = c.args.self.now.chunks.items in
    let len : c.args.self.now.chunks.len ≡ length chunks = c.args.self.now.chunks.ok.0 in
    others_filled chunks c.args.place c.insert.new.self (omega (arith, len, c.requires.within)) c.requires.sane.filled

pub relieve-requires-clause-few : goal.relieve-requires-clause-few
relieve-requires-clause-few c =
    let chunks : List (List Record) = c.args.self.now.chunks.items in
    let place = c.args.place in
    let len : c.args.self.now.chunks.len ≡ length chunks = c.args.self.now.chunks.ok.0 in
    let within : place < length chunks = omega (arith, len, c.requires.within) in
    let read = get_or_read chunks place c.index_mut-chunk.result.now within c.index_mut-chunk.ensures.value [] in
    let changed = c.insert.ensures ∙ ap (insert_area c.args.new) read in
    omega (arith, ap (λ chunk. length (areas_in_chunks (set chunks place chunk))) changed, one_longer_at chunks place c.args.new within, c.requires.few)

pub returns-else-is_large-clause-stays : goal.returns-else-is_large-clause-stays
returns-else-is_large-clause-stays c =
    let chunks : List (List Record) = c.args.self.now.chunks.items in
    let place = c.args.place in
    let len : c.args.self.now.chunks.len ≡ length chunks = c.args.self.now.chunks.ok.0 in
    let within : place < length chunks = omega (arith, len, c.requires.within) in
    let read = get_or_read chunks place c.index_mut-chunk.result.now within c.index_mut-chunk.ensures.value [] in
    let changed = c.insert.ensures ∙ ap (insert_area c.args.new) read in
    let few : length c.insert.new.self < 128 = leb-false 128 (length c.insert.new.self) (sym c.is_large.ensures ∙ c.if-is_large.false) in
    record {
      sane = record {
        roomy = record { chunks = c.requires.sane.roomy.chunks; spares = c.requires.sane.roomy.spares; enough = c.requires.sane.roomy.enough };
        filled = All-set IsFilled chunks place c.insert.new.self
            (omega (arith, ap length changed, one_longer c.args.new (get_or chunks place [])), omega (arith, few)) c.requires.sane.filled;
      };
      room = refl;
    }
