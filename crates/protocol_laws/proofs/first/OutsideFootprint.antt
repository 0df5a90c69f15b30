-- What each event leaves outside its footprint.
use Rattle.std.specs.Prelude.{◌≡◌, ◌≢◌, refl, ℕ, ◌+◌, ◌%◌, false, Some, List, length, slice_get}
use Rattle.std.proofs.Common.{ap}
use Rattle.std.proofs.lemmas.Bool.{true≢false}
use Rattle.snap_base.proofs.Lists.{get_other}
use Rattle.protocol.specs.Fixed.{Fixed}
use Rattle.protocol.specs.Parts.{Machine}
use Rattle.protocol.specs.Events.{Event, Submit, Pass, Form, Admit, Arrive, Ask, Take, Run, Send, End, Close, Complete, Sync, Note, Commit, Settle, Abort, Rollback, DropSub, DropControl, Prepare, Vouch, Decide, Seal, Finish, Reply, Trim, footprint}
use Rattle.protocol.specs.Words.{is_among}
use Rattle.protocol.specs.Effects.{after}
use Rattle.protocol_laws.proofs.first.Times
use Rattle.protocol_laws.proofs.first.PartsByNumber.{not_at}

-- ---- what is left

pub record SameOutside {C : Type 0} (logs : ℕ) (fp : List ℕ) (s t : Machine C) : Type 0 where
  pub ring : is_among 0 fp ≡ false → t.ring ≡ s.ring
  pub book : is_among 1 fp ≡ false → t.book ≡ s.book
  pub post : is_among 2 fp ≡ false → t.post ≡ s.post
  pub desk : is_among 3 fp ≡ false → t.desk ≡ s.desk
  pub logs_length : length t.logs ≡ length s.logs
  pub log : (l : ℕ) → is_among (4 + l) fp ≡ false → slice_get t.logs l ≡ slice_get s.logs l
  pub cell : (a : ℕ) → is_among (4 + logs + a) fp ≡ false → slice_get t.cells a ≡ slice_get s.cells a

other_log : (l k n : ℕ) (fp : List ℕ) → is_among (4 + l) fp ≡ false → slice_get fp n ≡ Some (4 + k) → k ≢ l
other_log l k n fp h e = λ q. not_at (4 + l) (4 + k) n fp h e (ap (λ z. 4 + z) q)

other_cell : (logs b a n : ℕ) (fp : List ℕ) → is_among (4 + logs + b) fp ≡ false → slice_get fp n ≡ Some (4 + logs + a) → a ≢ b
other_cell logs b a n fp h e = λ q. not_at (4 + logs + b) (4 + logs + a) n fp h e (ap (λ z. 4 + logs + z) q)

outside_submit : {C : Type 0} (w : Fixed C) (n : ℕ) (s : Machine C) → SameOutside w.text.logs (footprint w.text.logs (Submit n)) s (after w (Submit n) s)
unfolding after
outside_submit w n s = record {
  ring = λ h. absurd (true≢false h);
  book = λ h. refl;
  post = λ h. refl;
  desk = λ h. refl;
  logs_length = refl;
  log = λ j h. refl;
  cell = λ b h. refl;
}

outside_pass : {C : Type 0} (w : Fixed C) (c : ℕ) (s : Machine C) → SameOutside w.text.logs (footprint w.text.logs (Pass c)) s (after w (Pass c) s)
unfolding after
outside_pass w c s = record {
  ring = λ h. absurd (true≢false h);
  book = λ h. refl;
  post = λ h. refl;
  desk = λ h. refl;
  logs_length = refl;
  log = λ j h. refl;
  cell = λ b h. refl;
}

outside_form : {C : Type 0} (w : Fixed C) (k : ℕ) (s : Machine C) → SameOutside w.text.logs (footprint w.text.logs (Form k)) s (after w (Form k) s)
unfolding after
outside_form w k s = record {
  ring = λ h. absurd (true≢false h);
  book = λ h. refl;
  post = λ h. absurd (true≢false h);
  desk = λ h. absurd (true≢false h);
  logs_length = Times.length_set s.logs (k % w.text.logs) _;
  log = λ j h. get_other s.logs j (k % w.text.logs) _ (other_log j (k % w.text.logs) 3 (footprint w.text.logs (Form k)) h refl);
  cell = λ b h. refl;
}

outside_admit : {C : Type 0} (w : Fixed C) (t : ℕ) (s : Machine C) → SameOutside w.text.logs (footprint w.text.logs (Admit t)) s (after w (Admit t) s)
unfolding after
outside_admit w t s = record {
  ring = λ h. absurd (true≢false h);
  book = λ h. absurd (true≢false h);
  post = λ h. absurd (true≢false h);
  desk = λ h. refl;
  logs_length = refl;
  log = λ j h. refl;
  cell = λ b h. refl;
}

outside_arrive : {C : Type 0} (w : Fixed C) (k a : ℕ) (s : Machine C) → SameOutside w.text.logs (footprint w.text.logs (Arrive k a)) s (after w (Arrive k a) s)
unfolding after
outside_arrive w k a s = record {
  ring = λ h. refl;
  book = λ h. absurd (true≢false h);
  post = λ h. absurd (true≢false h);
  desk = λ h. refl;
  logs_length = refl;
  log = λ j h. refl;
  cell = λ b h. get_other s.cells b a _ (other_cell w.text.logs b a 2 (footprint w.text.logs (Arrive k a)) h refl);
}

outside_ask : {C : Type 0} (w : Fixed C) (t a : ℕ) (s : Machine C) → SameOutside w.text.logs (footprint w.text.logs (Ask t a)) s (after w (Ask t a) s)
unfolding after
outside_ask w t a s = record {
  ring = λ h. refl;
  book = λ h. absurd (true≢false h);
  post = λ h. absurd (true≢false h);
  desk = λ h. refl;
  logs_length = refl;
  log = λ j h. refl;
  cell = λ b h. get_other s.cells b a _ (other_cell w.text.logs b a 2 (footprint w.text.logs (Ask t a)) h refl);
}

outside_take : {C : Type 0} (w : Fixed C) (t a : ℕ) (s : Machine C) → SameOutside w.text.logs (footprint w.text.logs (Take t a)) s (after w (Take t a) s)
unfolding after
outside_take w t a s = record {
  ring = λ h. refl;
  book = λ h. refl;
  post = λ h. absurd (true≢false h);
  desk = λ h. refl;
  logs_length = refl;
  log = λ j h. refl;
  cell = λ b h. get_other s.cells b a _ (other_cell w.text.logs b a 1 (footprint w.text.logs (Take t a)) h refl);
}

outside_run : {C : Type 0} (w : Fixed C) (t a : ℕ) (s : Machine C) → SameOutside w.text.logs (footprint w.text.logs (Run t a)) s (after w (Run t a) s)
unfolding after
outside_run w t a s = record {
  ring = λ h. refl;
  book = λ h. refl;
  post = λ h. refl;
  desk = λ h. refl;
  logs_length = refl;
  log = λ j h. refl;
  cell = λ b h. get_other s.cells b a _ (other_cell w.text.logs b a 0 (footprint w.text.logs (Run t a)) h refl);
}

outside_send : {C : Type 0} (w : Fixed C) (t a : ℕ) (s : Machine C) → SameOutside w.text.logs (footprint w.text.logs (Send t a)) s (after w (Send t a) s)
unfolding after
outside_send w t a s = record {
  ring = λ h. refl;
  book = λ h. refl;
  post = λ h. absurd (true≢false h);
  desk = λ h. refl;
  logs_length = refl;
  log = λ j h. refl;
  cell = λ b h. get_other s.cells b a _ (other_cell w.text.logs b a 1 (footprint w.text.logs (Send t a)) h refl);
}

outside_end : {C : Type 0} (w : Fixed C) (t a : ℕ) (s : Machine C) → SameOutside w.text.logs (footprint w.text.logs (End t a)) s (after w (End t a) s)
unfolding after
outside_end w t a s = record {
  ring = λ h. refl;
  book = λ h. absurd (true≢false h);
  post = λ h. refl;
  desk = λ h. absurd (true≢false h);
  logs_length = refl;
  log = λ j h. refl;
  cell = λ b h. get_other s.cells b a _ (other_cell w.text.logs b a 2 (footprint w.text.logs (End t a)) h refl);
}

outside_close : {C : Type 0} (w : Fixed C) (t a : ℕ) (s : Machine C) → SameOutside w.text.logs (footprint w.text.logs (Close t a)) s (after w (Close t a) s)
unfolding after
outside_close w t a s = record {
  ring = λ h. refl;
  book = λ h. refl;
  post = λ h. refl;
  desk = λ h. refl;
  logs_length = refl;
  log = λ j h. refl;
  cell = λ b h. get_other s.cells b a _ (other_cell w.text.logs b a 1 (footprint w.text.logs (Close t a)) h refl);
}

outside_complete : {C : Type 0} (w : Fixed C) (k a : ℕ) (s : Machine C) → SameOutside w.text.logs (footprint w.text.logs (Complete k a)) s (after w (Complete k a) s)
unfolding after
outside_complete w k a s = record {
  ring = λ h. refl;
  book = λ h. refl;
  post = λ h. refl;
  desk = λ h. refl;
  logs_length = Times.length_set s.logs (a % w.text.logs) _;
  log = λ j h. get_other s.logs j (a % w.text.logs) _ (other_log j (a % w.text.logs) 0 (footprint w.text.logs (Complete k a)) h refl);
  cell = λ b h. get_other s.cells b a _ (other_cell w.text.logs b a 1 (footprint w.text.logs (Complete k a)) h refl);
}

outside_sync : {C : Type 0} (w : Fixed C) (l : ℕ) (s : Machine C) → SameOutside w.text.logs (footprint w.text.logs (Sync l)) s (after w (Sync l) s)
unfolding after
outside_sync w l s = record {
  ring = λ h. refl;
  book = λ h. refl;
  post = λ h. refl;
  desk = λ h. refl;
  logs_length = Times.length_set s.logs l _;
  log = λ j h. get_other s.logs j l _ (other_log j l 0 (footprint w.text.logs (Sync l)) h refl);
  cell = λ b h. refl;
}

outside_note : {C : Type 0} (w : Fixed C) (k a : ℕ) (s : Machine C) → SameOutside w.text.logs (footprint w.text.logs (Note k a)) s (after w (Note k a) s)
unfolding after
outside_note w k a s = record {
  ring = λ h. refl;
  book = λ h. refl;
  post = λ h. refl;
  desk = λ h. absurd (true≢false h);
  logs_length = refl;
  log = λ j h. refl;
  cell = λ b h. refl;
}

outside_commit : {C : Type 0} (w : Fixed C) (k : ℕ) (s : Machine C) → SameOutside w.text.logs (footprint w.text.logs (Commit k)) s (after w (Commit k) s)
unfolding after
outside_commit w k s = record {
  ring = λ h. refl;
  book = λ h. refl;
  post = λ h. refl;
  desk = λ h. absurd (true≢false h);
  logs_length = Times.length_set s.logs (k % w.text.logs) _;
  log = λ j h. get_other s.logs j (k % w.text.logs) _ (other_log j (k % w.text.logs) 1 (footprint w.text.logs (Commit k)) h refl);
  cell = λ b h. refl;
}

outside_settle : {C : Type 0} (w : Fixed C) (k : ℕ) (s : Machine C) → SameOutside w.text.logs (footprint w.text.logs (Settle k)) s (after w (Settle k) s)
unfolding after
outside_settle w k s = record {
  ring = λ h. refl;
  book = λ h. refl;
  post = λ h. refl;
  desk = λ h. absurd (true≢false h);
  logs_length = refl;
  log = λ j h. refl;
  cell = λ b h. refl;
}

outside_abort : {C : Type 0} (w : Fixed C) (k : ℕ) (s : Machine C) → SameOutside w.text.logs (footprint w.text.logs (Abort k)) s (after w (Abort k) s)
unfolding after
outside_abort w k s = record {
  ring = λ h. absurd (true≢false h);
  book = λ h. absurd (true≢false h);
  post = λ h. refl;
  desk = λ h. absurd (true≢false h);
  logs_length = refl;
  log = λ j h. refl;
  cell = λ b h. refl;
}

outside_rollback : {C : Type 0} (w : Fixed C) (a : ℕ) (s : Machine C) → SameOutside w.text.logs (footprint w.text.logs (Rollback a)) s (after w (Rollback a) s)
unfolding after
outside_rollback w a s = record {
  ring = λ h. refl;
  book = λ h. refl;
  post = λ h. refl;
  desk = λ h. refl;
  logs_length = refl;
  log = λ j h. refl;
  cell = λ b h. get_other s.cells b a _ (other_cell w.text.logs b a 1 (footprint w.text.logs (Rollback a)) h refl);
}

outside_dropsub : {C : Type 0} (w : Fixed C) (k a : ℕ) (s : Machine C) → SameOutside w.text.logs (footprint w.text.logs (DropSub k a)) s (after w (DropSub k a) s)
unfolding after
outside_dropsub w k a s = record {
  ring = λ h. refl;
  book = λ h. refl;
  post = λ h. absurd (true≢false h);
  desk = λ h. refl;
  logs_length = refl;
  log = λ j h. refl;
  cell = λ b h. refl;
}

outside_dropcontrol : {C : Type 0} (w : Fixed C) (t : ℕ) (s : Machine C) → SameOutside w.text.logs (footprint w.text.logs (DropControl t)) s (after w (DropControl t) s)
unfolding after
outside_dropcontrol w t s = record {
  ring = λ h. refl;
  book = λ h. refl;
  post = λ h. absurd (true≢false h);
  desk = λ h. refl;
  logs_length = refl;
  log = λ j h. refl;
  cell = λ b h. refl;
}

outside_prepare : {C : Type 0} (w : Fixed C) (t a : ℕ) (s : Machine C) → SameOutside w.text.logs (footprint w.text.logs (Prepare t a)) s (after w (Prepare t a) s)
unfolding after
outside_prepare w t a s = record {
  ring = λ h. refl;
  book = λ h. absurd (true≢false h);
  post = λ h. refl;
  desk = λ h. refl;
  logs_length = Times.length_set s.logs (a % w.text.logs) _;
  log = λ j h. get_other s.logs j (a % w.text.logs) _ (other_log j (a % w.text.logs) 1 (footprint w.text.logs (Prepare t a)) h refl);
  cell = λ b h. refl;
}

outside_vouch : {C : Type 0} (w : Fixed C) (t a : ℕ) (s : Machine C) → SameOutside w.text.logs (footprint w.text.logs (Vouch t a)) s (after w (Vouch t a) s)
unfolding after
outside_vouch w t a s = record {
  ring = λ h. refl;
  book = λ h. absurd (true≢false h);
  post = λ h. refl;
  desk = λ h. refl;
  logs_length = refl;
  log = λ j h. refl;
  cell = λ b h. refl;
}

outside_decide : {C : Type 0} (w : Fixed C) (t : ℕ) (s : Machine C) → SameOutside w.text.logs (footprint w.text.logs (Decide t)) s (after w (Decide t) s)
unfolding after
outside_decide w t s = record {
  ring = λ h. refl;
  book = λ h. absurd (true≢false h);
  post = λ h. refl;
  desk = λ h. refl;
  logs_length = Times.length_set s.logs (t % w.text.logs) _;
  log = λ j h. get_other s.logs j (t % w.text.logs) _ (other_log j (t % w.text.logs) 2 (footprint w.text.logs (Decide t)) h refl);
  cell = λ b h. refl;
}

outside_seal : {C : Type 0} (w : Fixed C) (t : ℕ) (s : Machine C) → SameOutside w.text.logs (footprint w.text.logs (Seal t)) s (after w (Seal t) s)
unfolding after
outside_seal w t s = record {
  ring = λ h. refl;
  book = λ h. absurd (true≢false h);
  post = λ h. refl;
  desk = λ h. refl;
  logs_length = refl;
  log = λ j h. refl;
  cell = λ b h. refl;
}

outside_finish : {C : Type 0} (w : Fixed C) (t a : ℕ) (s : Machine C) → SameOutside w.text.logs (footprint w.text.logs (Finish t a)) s (after w (Finish t a) s)
unfolding after
outside_finish w t a s = record {
  ring = λ h. refl;
  book = λ h. absurd (true≢false h);
  post = λ h. refl;
  desk = λ h. refl;
  logs_length = refl;
  log = λ j h. refl;
  cell = λ b h. get_other s.cells b a _ (other_cell w.text.logs b a 1 (footprint w.text.logs (Finish t a)) h refl);
}

outside_reply : {C : Type 0} (w : Fixed C) (n : ℕ) (s : Machine C) → SameOutside w.text.logs (footprint w.text.logs (Reply n)) s (after w (Reply n) s)
unfolding after
outside_reply w n s = record {
  ring = λ h. refl;
  book = λ h. refl;
  post = λ h. refl;
  desk = λ h. absurd (true≢false h);
  logs_length = refl;
  log = λ j h. refl;
  cell = λ b h. refl;
}

outside_trim : {C : Type 0} (w : Fixed C) (k a : ℕ) (s : Machine C) → SameOutside w.text.logs (footprint w.text.logs (Trim k a)) s (after w (Trim k a) s)
unfolding after
outside_trim w k a s = record {
  ring = λ h. refl;
  book = λ h. refl;
  post = λ h. refl;
  desk = λ h. absurd (true≢false h);
  logs_length = refl;
  log = λ j h. refl;
  cell = λ b h. get_other s.cells b a _ (other_cell w.text.logs b a 1 (footprint w.text.logs (Trim k a)) h refl);
}

pub outside : {C : Type 0} (w : Fixed C) (e : Event) (s : Machine C) → SameOutside w.text.logs (footprint w.text.logs e) s (after w e s)
outside w (Submit n) s = outside_submit w n s
outside w (Pass c) s = outside_pass w c s
outside w (Form k) s = outside_form w k s
outside w (Admit t) s = outside_admit w t s
outside w (Arrive k a) s = outside_arrive w k a s
outside w (Ask t a) s = outside_ask w t a s
outside w (Take t a) s = outside_take w t a s
outside w (Run t a) s = outside_run w t a s
outside w (Send t a) s = outside_send w t a s
outside w (End t a) s = outside_end w t a s
outside w (Close t a) s = outside_close w t a s
outside w (Complete k a) s = outside_complete w k a s
outside w (Sync l) s = outside_sync w l s
outside w (Note k a) s = outside_note w k a s
outside w (Commit k) s = outside_commit w k s
outside w (Settle k) s = outside_settle w k s
outside w (Abort k) s = outside_abort w k s
outside w (Rollback a) s = outside_rollback w a s
outside w (DropSub k a) s = outside_dropsub w k a s
outside w (DropControl t) s = outside_dropcontrol w t s
outside w (Prepare t a) s = outside_prepare w t a s
outside w (Vouch t a) s = outside_vouch w t a s
outside w (Decide t) s = outside_decide w t s
outside w (Seal t) s = outside_seal w t s
outside w (Finish t a) s = outside_finish w t a s
outside w (Reply n) s = outside_reply w n s
outside w (Trim k a) s = outside_trim w k a s
