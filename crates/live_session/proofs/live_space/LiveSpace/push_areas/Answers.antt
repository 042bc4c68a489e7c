-- The proof of `push_areas`: a list without an area is not copied.
use Rattle.std.proofs.Common.{◌≡◌, ◌++◌, List, ℕ, OnOk, arith, length, rules, subst, vec_capacity, vec_len}
use Rattle.live_session.proofs.Shown.{lacks_list, no_list}
use Rattle.live_session.proofs.live_space.LiveSpace.push_areas.Goals as goal

pub returns-then-count-eq0-clause-text : goal.returns-then-count-eq0-clause-text
returns-then-count-eq0-clause-text c =
    let none : length c.args.self.now.space.areas ≡ 0 =
    first_of (cc (c.count.ensures, c.if-count-eq0.true), omega (arith, c.count.ensures, c.if-count-eq0.true), search rules) in
    subst (λ (t : List ℕ). OnOk c.push_count.result (c.push_count.new.text.items ≡ c.args.piece.now.items ++ t)) (no_list c.args.self.now none) c.push_count.ensures.ok

pub returns-then-count-eq0-clause-room : goal.returns-then-count-eq0-clause-room
returns-then-count-eq0-clause-room c =
    let none : length c.args.self.now.space.areas ≡ 0 =
    first_of (cc (c.count.ensures, c.if-count-eq0.true), omega (arith, c.count.ensures, c.if-count-eq0.true), search rules) in
    lacks_list c.push_count.result c.args.self.now _ (vec_capacity c.args.piece.now) (vec_len c.args.piece.now) (no_list c.args.self.now none) c.push_count.ensures.room
