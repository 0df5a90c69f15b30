-- What holds of the ACTs of orders beside votes, as they change one by one.
use Rattle.std.specs.Prelude.{◌≡◌, refl, ℕ, ◌≤◌, ◌==◌, Bool, true, false, ◌||◌, if◌then◌else◌, Option, Some, None, is_some, List, [], ◌∷◌, map}
use Rattle.std.specs.List.{AllByRecursion}
use Rattle.std.proofs.Common.{sym, ap, subst, ◌∙◌}
use Rattle.std.proofs.lemmas.Bool.{true≢false, and_parts}
use Rattle.snap_base.specs.declared.verdicts.Verdict.{Verdict}
use Rattle.protocol.specs.Parts.{Status, Live, Doomed, Decided, Sealed, Act, Pair}
use Rattle.protocol.specs.Words.{is_among, act_of, is_live_status, is_decided, is_ordered}
use Rattle.protocol.specs.Numbers.{times}
use Rattle.protocol.specs.Spread.{crossed_out, is_crossed, raised}
use Rattle.protocol.specs.OnBook as book
use Rattle.protocol_laws.specs.OneWay.{actors_of}
use Rattle.protocol_theorems.specs.BookFits.{IsOrder, IsVotedBy}
use Rattle.protocol_laws.proofs.first.Lists.{all_map, all_of, weaker}
use Rattle.protocol_theorems.proofs.quiet.QuietKnown.{found_once}
use Rattle.protocol_theorems.proofs.quiet.QuietEnd.{each_at}

-- ---- each ACT of one list has become the one at its place in another

abbrev pub EachNow : (Act → Act → Type 0) → List Act → List Act → Type 0
EachNow R [] [] = Unit {0}
EachNow R [] (y ∷ ys) = ⊥
EachNow R (x ∷ xs) [] = ⊥
EachNow R (x ∷ xs) (y ∷ ys) = R x y × EachNow R xs ys

pub each_map : (R : Act → Act → Type 0) (f : Act → Act) (xs : List Act) → AllByRecursion (λ x. R x (f x)) xs → EachNow R xs (map f xs)
each_map R f [] h = tt
each_map R f (x ∷ xs) h = (h.0, each_map R f xs h.1)

-- it keeps its tid, and is an order with its vote
abbrev pub Goes : List Act → List Act → Act → Act → Type 0
Goes vs us x y = (y.tid ≡ x.tid) × (IsOrder x → IsVotedBy (act_of x.tid vs) x → IsOrder y × IsVotedBy (act_of x.tid us) y)

-- what holds of the orders' ACTs
pub record OrdersFit (vs xs : List Act) : Type 0 where
  pub apart : (n : ℕ) → times n (map (λ x. x.tid) xs) ≤ 1
  pub bare : AllByRecursion IsOrder xs
  pub voted : AllByRecursion (λ x. IsVotedBy (act_of x.tid vs) x) xs

pub same_tids : (vs us xs ys : List Act) → EachNow (Goes vs us) xs ys → map (λ y. y.tid) ys ≡ map (λ x. x.tid) xs
same_tids vs us [] [] h = refl
same_tids vs us [] (y ∷ ys) h = absurd h
same_tids vs us (x ∷ xs) [] h = absurd h
same_tids vs us (x ∷ xs) (y ∷ ys) h = ap (λ n. n ∷ map (λ y. y.tid) ys) h.0.0 ∙ ap (λ ns. x.tid ∷ ns) (same_tids vs us xs ys h.1)

each_bare : (vs us xs ys : List Act) → EachNow (Goes vs us) xs ys → AllByRecursion IsOrder xs → AllByRecursion (λ x. IsVotedBy (act_of x.tid vs) x) xs → AllByRecursion IsOrder ys
each_bare vs us [] [] h g k = tt
each_bare vs us [] (y ∷ ys) h g k = absurd h
each_bare vs us (x ∷ xs) [] h g k = absurd h
each_bare vs us (x ∷ xs) (y ∷ ys) h g k = ((h.0.1 g.0 k.0).0, each_bare vs us xs ys h.1 g.1 k.1)

each_voted : (vs us xs ys : List Act) → EachNow (Goes vs us) xs ys → AllByRecursion IsOrder xs → AllByRecursion (λ x. IsVotedBy (act_of x.tid vs) x) xs → AllByRecursion (λ y. IsVotedBy (act_of y.tid us) y) ys
each_voted vs us [] [] h g k = tt
each_voted vs us [] (y ∷ ys) h g k = absurd h
each_voted vs us (x ∷ xs) [] h g k = absurd h
each_voted vs us (x ∷ xs) (y ∷ ys) h g k = (subst (λ n. IsVotedBy (act_of n us) y) (sym h.0.0) (h.0.1 g.0 k.0).1, each_voted vs us xs ys h.1 g.1 k.1)

pub go : (vs us xs ys : List Act) → EachNow (Goes vs us) xs ys → OrdersFit vs xs → OrdersFit us ys
go vs us xs ys h f = record {
  apart = λ n. subst (λ z. times n z ≤ 1) (sym (same_tids vs us xs ys h)) (f.apart n);
  bare = each_bare vs us xs ys h f.bare f.voted;
  voted = each_voted vs us xs ys h f.bare f.voted;
}

-- ---- who is known

pub some_act : (n : ℕ) (xs : List Act) → is_some (act_of n xs) ≡ is_among n (map (λ x. x.tid) xs)
some_act n [] = refl
some_act n (x ∷ xs) = by (x.tid == n) (some_act n xs)
  where
    by : (b : Bool) → is_some (act_of n xs) ≡ is_among n (map (λ x. x.tid) xs) → is_some (if b then Some x else act_of n xs) ≡ (b || is_among n (map (λ x. x.tid) xs))
    by true k = refl
    by false k = k

abbrev pub Known : List Act → List Act → Type 0
Known xs vs = AllByRecursion (λ v. is_some (act_of v.tid xs) ≡ true) vs

pub known_on : (xs ys vs : List Act) → map (λ y. y.tid) ys ≡ map (λ x. x.tid) xs → Known xs vs → Known ys vs
known_on xs ys vs e h = weaker (λ v. is_some (act_of v.tid xs) ≡ true) (λ v. is_some (act_of v.tid ys) ≡ true) vs (λ v k. some_act v.tid ys ∙ (ap (is_among v.tid) e ∙ (sym (some_act v.tid xs) ∙ k))) h

pub known_changed : (xs vs : List Act) (t : ℕ) (f : Act → Act) → ((y : Act) → (f y).tid ≡ y.tid) → Known xs vs → Known xs (book.changed_act t f vs)
known_changed xs vs t f i h = all_map (λ v. is_some (act_of v.tid xs) ≡ true) (λ v. is_some (act_of v.tid xs) ≡ true) (λ x. book.change_if (x.tid == t) f x) vs (λ v k. by v (v.tid == t) k) h
  where
    by : (v : Act) (b : Bool) → is_some (act_of v.tid xs) ≡ true → is_some (act_of (book.change_if b f v).tid xs) ≡ true
    by v true k = ap (λ n. is_some (act_of n xs)) (i v) ∙ k
    by v false k = k

-- ---- found by its tid

pub each_found : (xs : List Act) → ((n : ℕ) → times n (map (λ x. x.tid) xs) ≤ 1) → AllByRecursion (λ x. act_of x.tid xs ≡ Some x) xs
each_found xs h = each_at (λ x. act_of x.tid xs ≡ Some x) xs (found_once (λ x. x.tid) xs h)

-- ---- an order that is as before in what counts

pub record IsLike (x y : Act) : Type 0 where
  pub tid : y.tid ≡ x.tid
  pub result : y.result ≡ x.result
  pub places : y.places ≡ x.places
  pub ordered : is_ordered y.status ≡ is_ordered x.status
  pub decided : is_decided y.status ≡ is_decided x.status

order_like : (x y : Act) → IsLike x y → IsOrder x → IsOrder y
order_like x y i h = record {
  result = i.result ∙ h.result;
  undecided = i.decided ∙ h.undecided;
  unvoted = subst (AllByRecursion (λ p. (p.prepared || p.vouched) ≡ false)) (sym i.places) h.unvoted;
  once = λ n. subst (λ z. times n (actors_of z) ≤ 1) (sym i.places) (h.once n);
}

voted_like : (v : Option Act) (x y : Act) → IsLike x y → IsVotedBy v x → IsVotedBy v y
voted_like None x y i h = i.ordered ∙ h
voted_like (Some v) x y i h = record { ended = h.ended; actors = h.actors ∙ ap actors_of (sym i.places); undoomed = h.undoomed; placed = h.placed ∙ sym i.ordered }

pub goes_like : (vs : List Act) (x y : Act) → IsLike x y → Goes vs vs x y
goes_like vs x y i = (i.tid, λ g h. (order_like x y i g, voted_like (act_of x.tid vs) x y i h))

same_like : (x : Act) → IsLike x x
same_like x = record { tid = refl; result = refl; places = refl; ordered = refl; decided = refl }

-- a doom of a live one
doom_like : (p : Status → Bool) → p Live ≡ false → ((why : Verdict) → p (Doomed why) ≡ false) → (b : Bool) (st : Status) (why : Verdict) → (b ≡ true → is_live_status st ≡ true) → p (if b then Doomed why else st) ≡ p st
doom_like p l d false st why h = refl
doom_like p l d true Live why h = d why ∙ sym l
doom_like p l d true (Doomed v) why h = d why ∙ sym (d v)
doom_like p l d true (Decided c) why h = absurd (true≢false (sym (h refl)))
doom_like p l d true (Sealed c) why h = absurd (true≢false (sym (h refl)))

pub dooms_like : (x : Act) (n : Option ℕ) (b : Bool) (why : Verdict) → (b ≡ true → is_live_status x.status ≡ true) → IsLike x (record x { n = n; status = if b then Doomed why else x.status })
dooms_like x n b why h = record { tid = refl; result = refl; places = refl; ordered = doom_like is_ordered refl (λ v. refl) b x.status why h; decided = doom_like is_decided refl (λ v. refl) b x.status why h }

pub crossed_like : (a : ℕ) (x : Act) → IsLike x (crossed_out a x)
crossed_like a x = dooms_like x x.n (is_crossed x) _ (λ e. (and_parts (is_live_status x.status) _ e).0)

-- all are like before
pub goes_all : (vs xs : List Act) (f : Act → Act) → ((x : Act) → IsLike x (f x)) → OrdersFit vs xs → OrdersFit vs (map f xs)
goes_all vs xs f h g = go vs vs xs (map f xs) (each_map (Goes vs vs) f xs (all_of _ xs (λ x. goes_like vs x (f x) (h x)))) g

pub changed_like : (b : Bool) (f : Act → Act) (x : Act) → IsLike x (f x) → IsLike x (book.change_if b f x)
changed_like true f x h = h
changed_like false f x h = same_like x

pub raised_like : (vs : List Act) (ps : List Pair) (xs : List Act) → EachNow (Goes vs vs) xs (raised ps xs)
raised_like vs ps [] = tt
raised_like vs ps (x ∷ xs) = (goes_like vs x _ (record { tid = refl; result = refl; places = refl; ordered = refl; decided = refl }), raised_like vs ps xs)

-- the ACT with this tid, and all others
pub goes_one : (vs us : List Act) (t : ℕ) (f : Act → Act) (x : Act) → ((x.tid == t) ≡ true → Goes vs us x (f x)) → ((x.tid == t) ≡ false → act_of x.tid us ≡ act_of x.tid vs) → Goes vs us x (book.change_if (x.tid == t) f x)
goes_one vs us t f x own other = by (x.tid == t) refl
  where
    by : (b : Bool) → (x.tid == t) ≡ b → Goes vs us x (book.change_if b f x)
    by true e = own e
    by false e = (refl, λ g h. (g, subst (λ z. IsVotedBy z x) (sym (other e)) h))
