use Rattle.std.proofs.Common.{◌≡◌, not, is_some, map, max, Some, None, ap, sym, subst, ◌∙◌}
use Rattle.std.specs.Option.{option_map}
use Rattle.snap_base.proofs.Options.{nobody_is, somebody}
use Rattle.protocol.specs.Meant.{tid_number}
use Rattle.protocol.specs.Events.{Ask}
use Rattle.protocol.specs.Conditions.{conditions}
use Rattle.protocol.specs.Effects.{after, cell_at}
use Rattle.protocol.specs.OnBook.{met, in_the_way}
use Rattle.protocol.specs.OnCell.{act_placed}
use Rattle.protocol.specs.OnPost.{control_taken}
use Rattle.protocol.specs.Words.{control_of, floor_for, lock_of}
use Rattle.post_box.specs.Posting.{message_control}
use Rattle.book_part.specs.Halves.{Shows}
use Rattle.core_rows.proofs.Rules.{allowed_where}
use Rattle.core_rows.proofs.Placing.{is_at, put_there}
use Rattle.core_rows.proofs.Found.{held, is_there}
use Rattle.book_part.specs.order_book.Asked.{locks_of}
use Rattle.core_rows.proofs.Older.{asked_halves, rivals_met, same_tids}
use Rattle.core_rows.proofs.placing_acts.ask.Goals as goal

pub ask-requires : goal.ask-requires
unfolding conditions
ask-requires g c =
    let ok = allowed_where c.requires.text (Ask c.args.t.0 c.args.a.0) c.requires.state (c.ask_refusal-rule.ensures c.requires.text c.requires.state c.requires.run c.requires.shows ∙ c.if-rule-ne0.false) in
    c.conditions_are_met_in_halves.ensures.asks c.args.book.now c.requires.state.book c.args.t.0 c.requires.shows.0 ok.1.0

pub unwrap-control-requires : goal.unwrap-control-requires
unfolding conditions
unwrap-control-requires g c =
    let ok = allowed_where c.requires.text (Ask c.args.t.0 c.args.a.0) c.requires.state (c.ask_refusal-rule.ensures c.requires.text c.requires.state c.requires.run c.requires.shows ∙ c.if-rule-ne0.false) in
    let m = held _ _ ok.0 in
    let is = is_there message_control c.take_control.result _ m.0 c.take_control.ensures.value (ap (λ p. control_of c.args.t.0 p.controls) (sym c.requires.shows.1) ∙ m.1) in
    ap is_some is

pub returns-then-is_none-clause-ok : goal.returns-then-is_none-clause-ok
unfolding conditions after
returns-then-is_none-clause-ok g c w s r shows =
    let ok = allowed_where w (Ask c.args.t.0 c.args.a.0) s (c.ask_refusal-rule.ensures w s r shows ∙ c.if-rule-ne0.false) in
    let here = is_at s c.args.a.0 c.args.cell.now.cell shows.2 in
    let same = c.room.ensures.unchanged ∙ sym here in
    let lock = lock_of c.args.t.0 s.book.acts in
    let reads = c.is_reader-reader.ensures s.book shows.0 in
    let is_lock : record { tid = c.args.t.0; reader = c.is_reader-reader.result } ≡ lock = ap (λ b. record { tid = c.args.t.0; reader = b }) reads in
    let locks = met lock (cell_at s c.args.a.0).entries in
    let are = rivals_met _ _ lock _ (cell_at s c.args.a.0).entries (ap (map tid_number) c.deref.ensures.value ∙ c.in_ok-rivals.ensures c.args.t.0) is_lock (ap (λ y. y.entries) same) in
    let last = c.last-last.ensures ∙ ap (λ y. y.last) same in
    let floor = c.floor-floor.ensures ∙ (ap (λ y. floor_for c.is_reader-reader.result y.floors) same ∙ ap (λ b. floor_for b (cell_at s c.args.a.0).floors) reads) in
    let before = ap (λ n. max n c.floor-floor.result.0) last ∙ ap (λ n. max (cell_at s c.args.a.0).last n) floor in
    let halves = asked_halves c.args.book.now c.args.t.0 c.args.a.0 locks _ _ before in
    let book = subst (λ h. Shows h (after w (Ask c.args.t.0 c.args.a.0) s).book) (sym (c.in_ok-older.ensures.ok locks are ∙ halves)) (c.books_go_on.ensures w (Ask c.args.t.0 c.args.a.0) s c.args.book.now r shows.0 ok) in
    let post = ap (control_taken c.args.t.0) shows.1 ∙ sym c.take_control.ensures.messages in
    let none = nobody_is c.in_ok-older.older (c.is_none.ensures ∙ ap not c.if-is_none.true) in
    let way = sym (c.in_ok-older.ensures.older locks are) ∙ ap (option_map tid_number) none in
    let m = held _ _ ok.0 in
    let is = is_there message_control c.take_control.result _ m.0 c.take_control.ensures.value (ap (λ p. control_of c.args.t.0 p.controls) (sym shows.1) ∙ m.1) in
    let control : Some m.0.control ≡ Some c.unwrap-control.result = sym is ∙ c.unwrap-control.ensures in
    let placed = c.ask-then-is_none.ensures.placed m.0 (c.what_is_found_has_its_number.ensures.control c.args.t.0 s.post.controls m.0 m.1) (cc control) in (
      ok,
      (
        book,
        post,
        put_there s c.args.a.0 c.args.cell.now.cell _ (act_placed lock (in_the_way lock (cell_at s c.args.a.0).entries) (control_of c.args.t.0 s.post.controls)) shows.2
            (placed ∙ (ap (λ x. act_placed x None (Some m.0) c.room.new.self.cell) is_lock
            ∙ (ap (act_placed lock None (Some m.0)) c.room.ensures.unchanged
            ∙ (ap (λ o. act_placed lock o (Some m.0) c.args.cell.now.cell) (sym way)
            ∙ ap (λ o. act_placed lock (in_the_way lock (cell_at s c.args.a.0).entries) o c.args.cell.now.cell) (sym m.1))))),
      ),
    )

pub returns-else-is_none-clause-ok : goal.returns-else-is_none-clause-ok
unfolding conditions after
returns-else-is_none-clause-ok g c w s r shows =
    let ok = allowed_where w (Ask c.args.t.0 c.args.a.0) s (c.ask_refusal-rule.ensures w s r shows ∙ c.if-rule-ne0.false) in
    let here = is_at s c.args.a.0 c.args.cell.now.cell shows.2 in
    let same = c.room.ensures.unchanged ∙ sym here in
    let lock = lock_of c.args.t.0 s.book.acts in
    let reads = c.is_reader-reader.ensures s.book shows.0 in
    let is_lock : record { tid = c.args.t.0; reader = c.is_reader-reader.result } ≡ lock = ap (λ b. record { tid = c.args.t.0; reader = b }) reads in
    let locks = met lock (cell_at s c.args.a.0).entries in
    let are = rivals_met _ _ lock _ (cell_at s c.args.a.0).entries (ap (map tid_number) c.deref.ensures.value ∙ c.in_ok-rivals.ensures c.args.t.0) is_lock (ap (λ y. y.entries) same) in
    let last = c.last-last.ensures ∙ ap (λ y. y.last) same in
    let floor = c.floor-floor.ensures ∙ (ap (λ y. floor_for c.is_reader-reader.result y.floors) same ∙ ap (λ b. floor_for b (cell_at s c.args.a.0).floors) reads) in
    let before = ap (λ n. max n c.floor-floor.result.0) last ∙ ap (λ n. max (cell_at s c.args.a.0).last n) floor in
    let halves = asked_halves c.args.book.now c.args.t.0 c.args.a.0 locks _ _ before in
    let book = subst (λ h. Shows h (after w (Ask c.args.t.0 c.args.a.0) s).book) (sym (c.in_ok-older.ensures.ok locks are ∙ halves)) (c.books_go_on.ensures w (Ask c.args.t.0 c.args.a.0) s c.args.book.now r shows.0 ok) in
    let post = ap (control_taken c.args.t.0) shows.1 ∙ sym c.take_control.ensures.messages in
    let some = somebody c.in_ok-older.older (c.is_none.ensures ∙ ap not c.if-is_none.false) in
    let way = sym (c.in_ok-older.ensures.older locks are) ∙ ap (option_map tid_number) some.1 in (
      ok,
      (
        book,
        post,
        put_there s c.args.a.0 c.args.cell.now.cell _ (act_placed lock (in_the_way lock (cell_at s c.args.a.0).entries) (control_of c.args.t.0 s.post.controls)) shows.2
            (c.room.ensures.unchanged
            ∙ (sym (c.who_gives_way_is_not_placed.ensures lock some.0.0 (control_of c.args.t.0 s.post.controls) c.args.cell.now.cell)
            ∙ ap (λ o. act_placed lock o (control_of c.args.t.0 s.post.controls) c.args.cell.now.cell) (sym way))),
      ),
    )

pub returns-then-is_none-clause-room : goal.returns-then-is_none-clause-room
returns-then-is_none-clause-room g c =
    let rivals = c.deref.result.now in ap (λ h. h.most) (c.in_ok-older.ensures.ok (locks_of rivals) (same_tids rivals))

pub returns-else-is_none-clause-room : goal.returns-else-is_none-clause-room
returns-else-is_none-clause-room g c =
    let rivals = c.deref.result.now in ap (λ h. h.most) (c.in_ok-older.ensures.ok (locks_of rivals) (same_tids rivals))
