-- Where each transaction gives what it is told, behind those that committed before it, the serial run gives just that.
use Rattle.std.specs.Prelude.{◌≡◌, ◌≢◌, refl, ℕ, ◌==◌, Bool, true, false, if◌then◌else◌, Option, Some, List, [], ◌∷◌, length, map, filter, ⊤}
use Rattle.std.specs.List.{AllByRecursion}
use Rattle.std.proofs.Common.{sym, ap, subst, ◌∙◌}
use Rattle.std.proofs.lemmas.Bool.{true≢false, eq-eqb, ne_eqb}
use Rattle.snap_base.specs.declared.transactions.State.{State}
use Rattle.snap_base.specs.declared.transactions.TxResult.{TxResult}
use Rattle.protocol.specs.Events.{Event}
use Rattle.protocol.specs.Fixed.{Text, tx_at}
use Rattle.protocol.specs.Words.{is_value}
use Rattle.protocol.specs.History.{Done}
use Rattle.audit_words.specs.Happenings.{seen}
use Rattle.audit_words.specs.Papers.{Line, Actor}
use Rattle.audit_words.specs.Clauses.{Language, Meaning, LeavesNothing, serial, located, given, given_to, given_in, world_left_by, world_behind, last_world, TellsMeaning}
use Rattle.audit_words.specs.Audited.{Audited}
use Rattle.audit_words.specs.Serial.{txs, told, LineTellsState, PrintedIsSerial}
use Rattle.protocol_theorems.proofs.Lemmas.{all_sorted}
use Rattle.audit_laws.proofs.LinesTell.{all_lines, whatever_before, IsGiven, located_given, TxsDiffer, located_once, differ_sorted}

-- each gives what it is told, where those before it committed as told
abbrev pub AsSaid : Meaning → Text → List State → List Done → Type 0
AsSaid m w world [] = ⊤
AsSaid m w world (d ∷ ds) = (Some (m world (tx_at w d.tx)).result ≡ d.result) × AsSaid m w (world_left_by m w world d) ds

pub found_first : (n : ℕ) (r : TxResult) (gs : List (ℕ × TxResult)) → given_to n ((n, r) ∷ gs) ≡ Some r
found_first n r gs = by (n == n) (eq-eqb n n refl)
  where
    by : (b : Bool) → b ≡ true → (if b then Some r else given_to n gs) ≡ Some r
    by true e = refl
    by false e = absurd (true≢false (sym e))

pub found_behind : (n k : ℕ) (r : TxResult) (gs : List (ℕ × TxResult)) → k ≢ n → given_to n ((k, r) ∷ gs) ≡ given_to n gs
found_behind n k r gs h = by (k == n) (ne_eqb k n h)
  where
    by : (b : Bool) → b ≡ false → (if b then Some r else given_to n gs) ≡ given_to n gs
    by true e = absurd (true≢false e)
    by false e = refl

behind_first : (n : ℕ) (r : TxResult) (gs : List (ℕ × TxResult)) (ds : List Done) → AllByRecursion (λ e. n ≢ e.tx) ds → AllByRecursion (IsGiven ((n, r) ∷ gs)) ds → AllByRecursion (IsGiven gs) ds
behind_first n r gs [] h k = tt
behind_first n r gs (d ∷ ds) h k = (sym (found_behind d.tx n r gs h.0) ∙ k.0, behind_first n r gs ds h.1 k.1)

pub as_said : (m : Meaning) (w : Text) (world : List State) (ds : List Done) → TxsDiffer ds → AllByRecursion (IsGiven (given m w world ds)) ds → AsSaid m w world ds
as_said m w world [] h k = tt
as_said m w world (d ∷ ds) h k = (
  sym (found_first d.tx (m world (tx_at w d.tx)).result (given m w (world_left_by m w world d) ds)) ∙ k.0,
  as_said m w (world_left_by m w world d) ds h.1 (behind_first d.tx (m world (tx_at w d.tx)).result (given m w (world_left_by m w world d) ds) ds h.0 k.1),
)

-- ---- who fails leaves nothing

-- it leaves what it is to leave
pub leaves : (m : Meaning) → LeavesNothing m → (w : Text) (world : List State) (d : Done) → Some (m world (tx_at w d.tx)).result ≡ d.result → (m world (tx_at w d.tx)).world ≡ world_left_by m w world d
leaves m f w world d e = by (is_value d.result) refl
  where
    by : (b : Bool) → is_value d.result ≡ b → (m world (tx_at w d.tx)).world ≡ (if b then (m world (tx_at w d.tx)).world else world)
    by true h = refl
    by false h = f world (tx_at w d.tx) (ap is_value e ∙ h)

-- ---- serial runs

pub all_results : (m : Meaning) → LeavesNothing m → (w : Text) (world : List State) (ds : List Done) → AsSaid m w world ds
    → (map Some (serial m world (txs w ds)).results ≡ map (λ d. d.result) ds) × ((serial m world (txs w ds)).world ≡ world_behind m w world ds)
all_results m f w world [] h = (refl, refl)
all_results m f w world (d ∷ ds) h =
    let l = leaves m f w world d h.0 in
    let k = all_results m f w (world_left_by m w world d) ds h.1 in (
      subst (λ (z : List State). map Some ((m world (tx_at w d.tx)).result ∷ (serial m z (txs w ds)).results) ≡ d.result ∷ map (λ (x : Done). x.result) ds) (sym l)
          (ap (λ (r : Option TxResult). r ∷ map Some (serial m (world_left_by m w world d) (txs w ds)).results) h.0 ∙ ap (λ (rs : List (Option TxResult)). d.result ∷ rs) k.0),
      subst (λ (z : List State). (serial m z (txs w ds)).world ≡ world_behind m w (world_left_by m w world d) ds) (sym l) k.1,
    )

abbrev valued : List Done → List Done
valued ds = filter (λ d. is_value d.result) ds

kept_results : (m : Meaning) (w : Text) (world : List State) (ds : List Done) → AsSaid m w world ds
    → (map Some (serial m world (txs w (valued ds))).results ≡ map (λ d. d.result) (valued ds)) × ((serial m world (txs w (valued ds))).world ≡ world_behind m w world ds)
kept_results m w world [] h = (refl, refl)
kept_results m w world (d ∷ ds) h = by (is_value d.result) (kept_results m w (world_left_by m w world d) ds h.1)
  where
    by : (b : Bool)
        → (map Some (serial m (if b then (m world (tx_at w d.tx)).world else world) (txs w (valued ds))).results ≡ map (λ (x : Done). x.result) (valued ds))
        × ((serial m (if b then (m world (tx_at w d.tx)).world else world) (txs w (valued ds))).world ≡ world_behind m w (if b then (m world (tx_at w d.tx)).world else world) ds)
        → (map Some (serial m world (txs w (if b then d ∷ valued ds else valued ds))).results ≡ map (λ (x : Done). x.result) (if b then d ∷ valued ds else valued ds))
        × ((serial m world (txs w (if b then d ∷ valued ds else valued ds))).world ≡ world_behind m w (if b then (m world (tx_at w d.tx)).world else world) ds)
    by true k =
        (ap (λ (r : Option TxResult). r ∷ map Some (serial m (m world (tx_at w d.tx)).world (txs w (valued ds))).results) h.0 ∙ ap (λ (rs : List (Option TxResult)). d.result ∷ rs) k.0, k.1)
    by false k = k

-- ---- the law

to_state : (m : Meaning) (w : Text) (all front : List Line) (l : Line) → TellsMeaning m w all front l → LineTellsState (last_world m w all) l
to_state m w all front (Actor a fields) h = h
to_state m w all front _ h = tt

pub papers_are_serial : (p : Language) (w : Text) (es : List Event) (ls : List Line) → LeavesNothing p.meaning → Audited p w es ls → PrintedIsSerial p.meaning w ls
papers_are_serial p w es ls f a =
    let m : Meaning = p.meaning in
    let g = located_given m w ls ls (all_lines (TellsMeaning m w ls) (λ (l : Line). TellsMeaning m w ls [] l) (whatever_before m w ls) [] ls a.meaning) in
    let d = differ_sorted (located ls) (located_once (length w.txs) (length w.opening.states) (length (seen p.reads w es).settled) [] ls a.shape.each).differ in
    let q = as_said m w w.opening.states (told ls) d (all_sorted (IsGiven (given_in m w ls)) (located ls) g) in
    let c = kept_results m w w.opening.states (told ls) q in
    let k = all_results m f w w.opening.states (told ls) q in
    record {
      results = c.0;
      states = subst (λ (z : List State). AllByRecursion (LineTellsState z) ls) (sym c.1) (all_lines (TellsMeaning m w ls) (LineTellsState (last_world m w ls)) (to_state m w ls) [] ls a.meaning);
      with_failures = k.0;
      same_world = k.1 ∙ sym c.1;
    }
