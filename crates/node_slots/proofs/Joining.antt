-- For `NodeTable::join` and `NodeTable::new_reader`: a join and a split of seats keep the rule.
use Rattle.std.proofs.Common.{ℕ, ◌≡◌, ◌<◌, ◌+◌, ◌∙◌, ◌⊎◌, inl, inr, refl, sym, ap, List, [], ◌∷◌, ◌++◌, length, set, arith}
use Rattle.std.proofs.lemmas.List.{length-set}
use Rattle.atomic_table.specs.Table.{Splits, Joins}
use Rattle.node_slots.specs.declared.view.Size.{Size}
use Rattle.node_slots.specs.declared.view.NodeSeatKind.TheVariants.{Reads, Writes}
use Rattle.node_slots.specs.declared.view.Known.{Known}
use Rattle.node_slots.specs.declared.view.NodeView.{NodeView}
use Rattle.node_slots.specs.Views.{node_view_at, spent_node_view, new_node_reader, after_node_reader, node_joined_at}
use Rattle.node_slots.specs.Rule.{FitsReader, NodeSeatFits, AreApart, ShowsGrace}
use Rattle.node_slots.proofs.Elements.{found_there, each_else, each_more}
use Rattle.node_slots.proofs.Standing.{seat_found, apart_same}
use Rattle.node_slots.proofs.Walking.{reader_fits}

-- a seat that was joined away is nobody's
apart_spent : (views : List NodeView) (other : ℕ) → other < length views → AreApart views → AreApart (set views other spent_node_view)
apart_spent views other within apart =
    let same : (k : ℕ) → (node_view_at (set views other spent_node_view) k).kind ≡ Reads → node_view_at (set views other spent_node_view) k ≡ node_view_at views k =
    each_else (λ k (v : NodeView). v.kind ≡ Reads → v ≡ node_view_at views k) views other spent_node_view spent_node_view within
    (λ k _ reads. refl) (λ reads. absurd (cc)) in
    λ i j first second both.
    apart i j (sym (ap (λ (v : NodeView). v.kind) (same i first)) ∙ first) (sym (ap (λ (v : NodeView). v.kind) (same j second)) ∙ second)
    (sym (ap (λ (v : NodeView). v.reader) (same i first)) ∙ both ∙ ap (λ (v : NodeView). v.reader) (same j second))

-- a spent seat fits any table
spent_fits : (size : Size) (words : List ℕ) (known : Known) (seat : ℕ) → NodeSeatFits size words known seat spent_node_view
spent_fits size words known seat = record {
  reader = λ reads. absurd (cc);
  writer = λ writes. absurd (cc);
}

-- join
pub reader_joins : (size : Size) (seat other : ℕ) (view taken : NodeView) → view.kind ≡ Reads
    → Joins (ShowsGrace size) seat view other taken (node_joined_at view) spent_node_view
reader_joins size seat other view taken reads state shows found apart other_there =
    let known : Known = shows.known in
    let at = seat_found size state known shows.shows seat view found in
    let both : NodeView = node_joined_at view in
    let middle : List NodeView = set state.views seat both in
    let count = length-set state.views seat both in
    let there = found_there middle other taken spent_node_view other_there in
    let fits = at.fits.reader reads in
    record {
      known = known;
      shows = record {
        stands = shows.shows.stands;
        words = shows.shows.words;
        seats = each_else (NodeSeatFits size state.words known) middle other spent_node_view spent_node_view there.1
            (λ k _. each_else (NodeSeatFits size state.words known) state.views seat both spent_node_view at.within (λ j _. shows.shows.seats j)
            (reader_fits size state.words known seat both reads
            (record { size_is = fits.size_is; made = fits.made; pin = fits.pin; keeps = fits.keeps })) k)
            (spent_fits size state.words known other);
        apart = apart_spent middle other there.1 (apart_same state.views seat view both at.is at.within refl refl shows.shows.apart);
      };
    }

-- each reader has one seat after a new one was made
apart_more : (views : List NodeView) (right : NodeView) (made : ℕ) → ((k : ℕ) → (node_view_at views k).kind ≡ Reads → (node_view_at views k).reader < made)
    → right.reader ≡ made → AreApart views → AreApart (views ++ right ∷ [])
apart_more views right made early new apart =
    let n : ℕ = length views in
    let Old : ℕ → NodeView → Type 0 = λ k (v : NodeView). v.kind ≡ Reads
    → ((k ≡ n) × (v.reader ≡ made)) ⊎ (((node_view_at views k).kind ≡ Reads) × ((node_view_at views k).reader ≡ v.reader)) in
    let which : (k : ℕ) → Old k (node_view_at (views ++ right ∷ []) k) = each_more Old views right spent_node_view (λ k reads. inr (reads, refl))
    (λ reads. inl (refl, new)) in
    λ i j first second both. elim (which i first) [
      | inl here ↦ elim (which j second) [
        | inl also ↦ here.0 ∙ sym also.0
        | inr old ↦ let less = early j old.0 in absurd (omega (arith, less, old.1, both, here.1))
      ]
      | inr old ↦ elim (which j second) [
        | inl also ↦ let less = early i old.0 in absurd (omega (arith, less, old.1, both, also.1))
        | inr other ↦ apart i j old.0 other.0 (old.1 ∙ both ∙ sym other.1)
      ]
    ]

-- the writer makes a reader
pub reader_splits : (size : Size) (seat : ℕ) (view : NodeView) → view.kind ≡ Writes → view.known.made < size.readers
    → Splits (ShowsGrace size) seat view (after_node_reader view) (new_node_reader view)
reader_splits size seat view writes few state shows found =
    let known : Known = shows.known in
    let stands = shows.shows.stands in
    let has = shows.shows.words in
    let at = seat_found size state known shows.shows seat view found in
    let is = at.fits.writer writes in
    let same : view.known.made ≡ known.made = ap (λ (k : Known). k.made) is.knows in
    let next : Known = record known { made = known.made + 1 } in
    let left : NodeView = after_node_reader view in
    let right : NodeView = new_node_reader view in
    let views : List NodeView = set state.views seat left in
    let older : (v : NodeView) → FitsReader size state.words known v → FitsReader size state.words next v =
    λ v fits. record { size_is = fits.size_is; made = omega (arith, fits.made); pin = fits.pin; keeps = fits.keeps } in
    let each : (k : ℕ) → NodeSeatFits size state.words next k (node_view_at views k) =
    each_else (NodeSeatFits size state.words next) state.views seat left spent_node_view at.within
    (λ k far. record {
      reader = λ reads. older (node_view_at state.views k) ((shows.shows.seats k).reader reads);
      writer = λ also. absurd (far (((shows.shows.seats k).writer also).first ∙ sym is.first));
    })
    (record {
      reader = λ reads. let e = sym writes ∙ reads in absurd (cc);
      writer = λ _. record { size_is = is.size_is; first = is.first; knows = ap (λ (k : Known). record k { made = k.made + 1 }) is.knows };
    }) in
    record {
      known = next;
      shows = record {
        stands = record {
          writer_facts = stands.writer_facts;
          tree = stands.tree;
          shown = stands.shown;
          width = stands.width;
          rows = stands.rows;
          exist = stands.exist;
          made = omega (arith, few, same);
        };
        words = record {
          sized = has.sized;
          root = has.root;
          new_pins = λ reader new inside. has.new_pins reader (omega (arith, new)) inside;
          rows = has.rows;
        };
        seats = each_more (NodeSeatFits size state.words next) views right spent_node_view each
            (record {
              reader = λ _. record {
                size_is = is.size_is;
                made = omega (arith, same);
                pin = has.new_pins view.known.made (omega (arith, same)) few;
                keeps = λ shown some. absurd (cc);
              };
              writer = λ also. absurd (cc);
            });
        apart = apart_more views right known.made
            (λ k reads. let fits = each_else (λ j (v : NodeView). v.kind ≡ Reads → v.reader < known.made) state.views seat left spent_node_view at.within
            (λ j _ also. ((shows.shows.seats j).reader also).made) (λ also. let e = sym writes ∙ also in absurd (cc)) k in fits reads)
            same (apart_same state.views seat view left at.is at.within refl refl shows.shows.apart);
      };
    }
