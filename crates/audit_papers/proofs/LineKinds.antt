-- Words are of none of the kinds of verdicts, or of lines, and so of no verdict and no line.
use Rattle.std.specs.Prelude.{◌≡◌, ◌≢◌, ℕ, ℤ, Option, Some, None, IfSome, MatchOption, FitsSigned, List, [], ◌∷◌, codes}
use Rattle.std.specs.Int.{w64}
use Rattle.std.specs.Fmt.{signed_decimal}
use Rattle.std.proofs.Common.{sym, ◌∙◌}
use Rattle.snap_base.specs.declared.ids.ActorId.{ActorId}
use Rattle.snap_base.specs.declared.ids.Bid.{Bid}
use Rattle.snap_base.specs.declared.ids.Tid.{Tid}
use Rattle.snap_base.specs.declared.ids.TxNo.{TxNo}
use Rattle.snap_base.specs.declared.verdicts.Place.{Place}
use Rattle.snap_base.specs.declared.verdicts.Verdict.{Verdict}
use Rattle.snap_base.specs.declared.verdicts.Verdict.TheVariants as verdicts
use Rattle.snap_report.specs.Lines.{value_text}
use Rattle.audit_words.specs.Papers.{Line, Reply, Actor, End, Kept, Recovered, line_text, IsWellFormedLine, IsVerdict}
use Rattle.audit_papers.specs.declared.report_line.ReportLine as code
use Rattle.audit_papers.specs.LineWords.{line_words, verdict_words, words}
use Rattle.audit_papers.specs.ReportLines.{IsNoActorLine, line_of}
use Rattle.audit_papers.proofs.LineWords.{text_of_words, words_of_form}

-- ---- verdicts

no_verdict : (ws : List (List ℕ))
    → ((p : Place) (v : ℤ) → IsVerdict (verdicts.Committed p v) → ws ≢ verdict_words (verdicts.Committed p v))
    → ((p : Place) (code : ℕ) → IsVerdict (verdicts.Code p code) → ws ≢ verdict_words (verdicts.Code p code))
    → ((k : Bid) (at code : ℕ) → IsVerdict (verdicts.BatchCode k at code) → ws ≢ verdict_words (verdicts.BatchCode k at code))
    → ((k : Bid) (by : TxNo) → IsVerdict (verdicts.Cascade k by) → ws ≢ verdict_words (verdicts.Cascade k by))
    → ((a : ActorId) (older own : Tid) → IsVerdict (verdicts.Died a older own) → ws ≢ verdict_words (verdicts.Died a older own))
    → ((m n : Bid) (a : ActorId) → IsVerdict (verdicts.Order m n a) → ws ≢ verdict_words (verdicts.Order m n a))
    → ((l : ℕ) → IsVerdict (verdicts.Unsure l) → ws ≢ verdict_words (verdicts.Unsure l))
    → (v : Verdict) → IsVerdict v → ws ≢ verdict_words v
no_verdict ws f1 f2 f3 f4 f5 f6 f7 (verdicts.Committed p v) h = f1 p v h
no_verdict ws f1 f2 f3 f4 f5 f6 f7 (verdicts.Code p code) h = f2 p code h
no_verdict ws f1 f2 f3 f4 f5 f6 f7 (verdicts.BatchCode k at code) h = f3 k at code h
no_verdict ws f1 f2 f3 f4 f5 f6 f7 (verdicts.Cascade k by) h = f4 k by h
no_verdict ws f1 f2 f3 f4 f5 f6 f7 (verdicts.Died a older own) h = f5 a older own h
no_verdict ws f1 f2 f3 f4 f5 f6 f7 (verdicts.Order m n a) h = f6 m n a h
no_verdict ws f1 f2 f3 f4 f5 f6 f7 (verdicts.Unsure l) h = f7 l h

-- the last kind is asked, and the words are of none of the others
pub last_verdict : (o : Option Verdict) (ws : List (List ℕ))
    → ((p : Place) (v : ℤ) → IsVerdict (verdicts.Committed p v) → ws ≢ verdict_words (verdicts.Committed p v))
    → ((p : Place) (code : ℕ) → IsVerdict (verdicts.Code p code) → ws ≢ verdict_words (verdicts.Code p code))
    → ((k : Bid) (at code : ℕ) → IsVerdict (verdicts.BatchCode k at code) → ws ≢ verdict_words (verdicts.BatchCode k at code))
    → ((k : Bid) (by : TxNo) → IsVerdict (verdicts.Cascade k by) → ws ≢ verdict_words (verdicts.Cascade k by))
    → ((a : ActorId) (older own : Tid) → IsVerdict (verdicts.Died a older own) → ws ≢ verdict_words (verdicts.Died a older own))
    → ((m n : Bid) (a : ActorId) → IsVerdict (verdicts.Order m n a) → ws ≢ verdict_words (verdicts.Order m n a))
    → MatchOption o ((l : ℕ) → IsVerdict (verdicts.Unsure l) → ws ≢ verdict_words (verdicts.Unsure l)) (λ v. IsVerdict v × (ws ≡ verdict_words v))
    → MatchOption o ((v : Verdict) → IsVerdict v → ws ≢ verdict_words v) (λ v. IsVerdict v × (ws ≡ verdict_words v))
last_verdict None ws f1 f2 f3 f4 f5 f6 h = no_verdict ws f1 f2 f3 f4 f5 f6 h
last_verdict (Some v) ws f1 f2 f3 f4 f5 f6 h = h

-- ---- lines

no_other : (ws : List (List ℕ))
    → ((n : ℕ) (v : Verdict) → IsWellFormedLine (Reply n v) → ws ≢ line_words (Reply n v))
    → ((x y z : ℕ) → IsWellFormedLine (End x y z) → ws ≢ line_words (End x y z))
    → ((p : Place) (v : Option ℤ) → IsWellFormedLine (Kept p v) → ws ≢ line_words (Kept p v))
    → ((x y t k c : ℕ) → IsWellFormedLine (Recovered x y t k c) → ws ≢ line_words (Recovered x y t k c))
    → (l : Line) → IsNoActorLine l → IsWellFormedLine l → ws ≢ line_words l
no_other ws f1 f2 f3 f4 (Reply n v) o h = f1 n v h
no_other ws f1 f2 f3 f4 (Actor a fields) o h = absurd o
no_other ws f1 f2 f3 f4 (End x y z) o h = f2 x y z h
no_other ws f1 f2 f3 f4 (Kept p v) o h = f3 p v h
no_other ws f1 f2 f3 f4 (Recovered x y t k c) o h = f4 x y t k c h

pub last_other : (o : Option code.ReportLine) (ws : List (List ℕ))
    → ((n : ℕ) (v : Verdict) → IsWellFormedLine (Reply n v) → ws ≢ line_words (Reply n v))
    → ((x y z : ℕ) → IsWellFormedLine (End x y z) → ws ≢ line_words (End x y z))
    → ((p : Place) (v : Option ℤ) → IsWellFormedLine (Kept p v) → ws ≢ line_words (Kept p v))
    → MatchOption o ((x y t k c : ℕ) → IsWellFormedLine (Recovered x y t k c) → ws ≢ line_words (Recovered x y t k c)) (λ l. IsWellFormedLine (line_of l) × (ws ≡ line_words (line_of l)))
    → MatchOption o ((l : Line) → IsNoActorLine l → IsWellFormedLine l → ws ≢ line_words l) (λ l. IsWellFormedLine (line_of l) × (ws ≡ line_words (line_of l)))
last_other None ws f1 f2 f3 h = no_other ws f1 f2 f3 h
last_other (Some l) ws f1 f2 f3 h = h

no_line : (ws : List (List ℕ)) → ((l : Line) → IsNoActorLine l → IsWellFormedLine l → ws ≢ line_words l) → ((a : ℕ) (fields : List ℤ) → IsWellFormedLine (Actor a fields) → ws ≢ line_words (Actor a fields)) → (l : Line) → IsWellFormedLine l → ws ≢ line_words l
no_line ws f g (Reply n v) h = f (Reply n v) tt h
no_line ws f g (Actor a fields) h = g a fields h
no_line ws f g (End x y z) h = f (End x y z) tt h
no_line ws f g (Kept p v) h = f (Kept p v) tt h
no_line ws f g (Recovered x y t k c) h = f (Recovered x y t k c) tt h

pub last_line : (o : Option code.ReportLine) (ws : List (List ℕ)) → ((l : Line) → IsNoActorLine l → IsWellFormedLine l → ws ≢ line_words l)
    → MatchOption o ((a : ℕ) (fields : List ℤ) → IsWellFormedLine (Actor a fields) → ws ≢ line_words (Actor a fields)) (λ l. IsWellFormedLine (line_of l) × (ws ≡ line_words (line_of l)))
    → MatchOption o ((l : Line) → IsWellFormedLine l → ws ≢ line_words l) (λ l. IsWellFormedLine (line_of l) × (ws ≡ line_words (line_of l)))
last_line None ws f h = no_line ws f h
last_line (Some l) ws f h = h

-- ---- what the words of a line are, the line is

pub by_words : (o : Option code.ReportLine) (line : List ℕ) (ws : List (List ℕ)) → ws ≡ words line
    → MatchOption o ((l : Line) → IsWellFormedLine l → ws ≢ line_words l) (λ l. IsWellFormedLine (line_of l) × (ws ≡ line_words (line_of l)))
    → MatchOption o ((l : Line) → IsWellFormedLine l → line ≢ line_text l) (λ l. IsWellFormedLine (line_of l) × (line ≡ line_text (line_of l)))
by_words None line ws e h = λ l f q. h l f (e ∙ words_of_form line l f q)
by_words (Some l) line ws e h = (h.0, text_of_words line (line_of l) (sym e ∙ h.1))

-- ---- a value, or the word for none

pub no_value : (ws : List (List ℕ)) → ((rest : List (List ℕ)) → ws ≢ codes "unknown" ∷ rest) → ((z : ℤ) → FitsSigned w64 z → ws ≢ signed_decimal z ∷ []) → (v : Option ℤ) → IfSome v (FitsSigned w64) → ws ≢ value_text v ∷ []
no_value ws f g None h = f []
no_value ws f g (Some z) h = g z h
