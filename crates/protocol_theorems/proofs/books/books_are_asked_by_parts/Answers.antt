use Rattle.std.specs.Prelude.{◌≡◌, refl, ℕ, ◌==◌, Option, Some, None, is_some}
use Rattle.std.proofs.Common.{subst}
use Rattle.std.proofs.lemmas.Bool.{eqb-true}
use Rattle.protocol.specs.Parts.{Act, Book}
use Rattle.protocol.specs.Words.{act_of}
use Rattle.protocol.specs.BookParts.{result_by}
use Rattle.protocol_theorems.specs.BookFits.{BookFits, IsOrder, IsVoted, IsVotedBy}
use Rattle.protocol_theorems.proofs.halves.ActWithVotes
use Rattle.protocol_theorems.proofs.halves.HalvesAsked as asked
use Rattle.protocol_theorems.proofs.books.books_are_asked_by_parts.Goals as goal
use Rattle.protocol_laws.proofs.first.Lists.{all_found}

order : (o v : Book) (t : ℕ) (x : Act) → BookFits o v → act_of t o.acts ≡ Some x → IsOrder x
order o v t x h e = (all_found IsOrder (λ x. x.tid == t) o.acts x h.bare e).0

votes : (o v : Book) (t : ℕ) (x : Act) → BookFits o v → act_of t o.acts ≡ Some x → IsVotedBy (act_of t v.acts) x
votes o v t x h e = let u = all_found (λ x. IsVotedBy (act_of x.tid v.acts) x) (λ x. x.tid == t) o.acts x h.voted e in subst (λ n. IsVotedBy (act_of n v.acts) x) (eqb-true x.tid t u.1) u.0

own : (o v : Book) (t : ℕ) (x y : Act) → BookFits o v → act_of t o.acts ≡ Some x → act_of t v.acts ≡ Some y → IsVoted y x
own o v t x y h e k = subst (λ z. IsVotedBy z x) k (votes o v t x h e)

some_result : (v : Option Act) (x : Act) → IsVotedBy v x → is_some (result_by v) ≡ is_some v
some_result None x h = refl
some_result (Some y) x h = h.ended

pub returns-clause-found : goal.returns-clause-found
returns-clause-found c = λ o v cs t. ActWithVotes.found_by v.acts t o.acts

pub returns-clause-lives : goal.returns-clause-lives
returns-clause-lives c = λ o v cs. asked.live_count v.acts o.acts

pub returns-clause-live : goal.returns-clause-live
returns-clause-live c = asked.live_act_by

pub returns-clause-status : goal.returns-clause-status
returns-clause-status c = λ v x. ActWithVotes.live_by v x.status

pub returns-clause-doomed : goal.returns-clause-doomed
returns-clause-doomed c = λ v x. ActWithVotes.doomed_by v x.status

pub returns-clause-ordered : goal.returns-clause-ordered
returns-clause-ordered c = λ v x. ActWithVotes.ordered_kept v x.status

pub returns-clause-place : goal.returns-clause-place
returns-clause-place c = λ v x a. asked.joined_found a v x.places

pub returns-clause-left : goal.returns-clause-left
returns-clause-left c = λ k v x a. asked.left_mark k a v x

pub returns-clause-ended : goal.returns-clause-ended
returns-clause-ended c = λ o v t x h e. some_result (act_of t v.acts) x (votes o v t x h e)

pub returns-clause-decided : goal.returns-clause-decided
returns-clause-decided c = λ o v t x h e. asked.decided_by (act_of t v.acts) x (votes o v t x h e)

pub returns-clause-sealed : goal.returns-clause-sealed
returns-clause-sealed c = λ o v t x h e. asked.sealed_by (act_of t v.acts) x (votes o v t x h e)

pub returns-clause-voted : goal.returns-clause-voted
returns-clause-voted c = λ k o v t a x y h e i. asked.vote_mark k a y x (own o v t x y h e i).actors

pub returns-clause-vouched : goal.returns-clause-vouched
returns-clause-vouched c = λ o v t x y h e i. asked.vouched_by y x (own o v t x y h e i).actors (order o v t x h e).once

pub returns-clause-verdict : goal.returns-clause-verdict
returns-clause-verdict c = λ o v cs n h. asked.verdict_of n v.acts o.acts h.voted
