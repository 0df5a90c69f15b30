-- The names of events, by their texts.
use Rattle.std.proofs.Common.{◌≡◌, ℕ, ◌<◌, ◌^◌, List, [], ◌∷◌, get_or, refl, sym, ap, ◌∙◌, arith, if◌then◌else◌}
use Rattle.std.specs.Prelude.{Option, Some, None, codes}
use Rattle.std.specs.Str.{bytes_eq}
use Rattle.trace_text.specs.declared.names.Name.{Name}
use Rattle.trace_text.specs.declared.names.Name.TheVariants as name
use Rattle.trace_text.specs.Lines.{name_text, first_limit}
use Rattle.trace_text.specs.Reads.{LacksByte}
use Rattle.trace_text.proofs.Cuts.{free_test}

abbrev name_read : List ℕ → Option Name
name_read word =
    if bytes_eq word (codes "submit") then Some name.Submit else
    if bytes_eq word (codes "pass") then Some name.Pass else
    if bytes_eq word (codes "form") then Some name.Form else
    if bytes_eq word (codes "admit") then Some name.Admit else
    if bytes_eq word (codes "arrive") then Some name.Arrive else
    if bytes_eq word (codes "ask") then Some name.Ask else
    if bytes_eq word (codes "take") then Some name.Take else
    if bytes_eq word (codes "run") then Some name.Run else
    if bytes_eq word (codes "send") then Some name.Send else
    if bytes_eq word (codes "end") then Some name.End else
    if bytes_eq word (codes "close") then Some name.Close else
    if bytes_eq word (codes "complete") then Some name.Complete else
    if bytes_eq word (codes "sync") then Some name.Sync else
    if bytes_eq word (codes "note") then Some name.Note else
    if bytes_eq word (codes "commit") then Some name.Commit else
    if bytes_eq word (codes "settle") then Some name.Settle else
    if bytes_eq word (codes "abort") then Some name.AbortBatch else
    if bytes_eq word (codes "rollback") then Some name.Rollback else
    if bytes_eq word (codes "dropsub") then Some name.DropSub else
    if bytes_eq word (codes "dropcontrol") then Some name.DropControl else
    if bytes_eq word (codes "prepare") then Some name.Prepare else
    if bytes_eq word (codes "vouch") then Some name.Vouch else
    if bytes_eq word (codes "decide") then Some name.Decide else
    if bytes_eq word (codes "seal") then Some name.Seal else
    if bytes_eq word (codes "finish") then Some name.Finish else
    if bytes_eq word (codes "reply") then Some name.Reply else
    if bytes_eq word (codes "trim") then Some name.Trim else
    None

read_text : (k : Name) → name_read (name_text k) ≡ Some k
read_text name.Submit = refl
read_text name.Pass = refl
read_text name.Form = refl
read_text name.Admit = refl
read_text name.Arrive = refl
read_text name.Ask = refl
read_text name.Take = refl
read_text name.Run = refl
read_text name.Send = refl
read_text name.End = refl
read_text name.Close = refl
read_text name.Complete = refl
read_text name.Sync = refl
read_text name.Note = refl
read_text name.Commit = refl
read_text name.Settle = refl
read_text name.AbortBatch = refl
read_text name.Rollback = refl
read_text name.DropSub = refl
read_text name.DropControl = refl
read_text name.Prepare = refl
read_text name.Vouch = refl
read_text name.Decide = refl
read_text name.Seal = refl
read_text name.Finish = refl
read_text name.Reply = refl
read_text name.Trim = refl

pub name_one : (k l : Name) → name_text k ≡ name_text l → k ≡ l
name_one k l e =
    let same : Some k ≡ Some l = sym (read_text k) ∙ ap name_read e ∙ read_text l in
    cc

pub name_free : (k : Name) → LacksByte 32 (name_text k)
name_free name.Submit = free_test 32 (codes "submit") refl
name_free name.Pass = free_test 32 (codes "pass") refl
name_free name.Form = free_test 32 (codes "form") refl
name_free name.Admit = free_test 32 (codes "admit") refl
name_free name.Arrive = free_test 32 (codes "arrive") refl
name_free name.Ask = free_test 32 (codes "ask") refl
name_free name.Take = free_test 32 (codes "take") refl
name_free name.Run = free_test 32 (codes "run") refl
name_free name.Send = free_test 32 (codes "send") refl
name_free name.End = free_test 32 (codes "end") refl
name_free name.Close = free_test 32 (codes "close") refl
name_free name.Complete = free_test 32 (codes "complete") refl
name_free name.Sync = free_test 32 (codes "sync") refl
name_free name.Note = free_test 32 (codes "note") refl
name_free name.Commit = free_test 32 (codes "commit") refl
name_free name.Settle = free_test 32 (codes "settle") refl
name_free name.AbortBatch = free_test 32 (codes "abort") refl
name_free name.Rollback = free_test 32 (codes "rollback") refl
name_free name.DropSub = free_test 32 (codes "dropsub") refl
name_free name.DropControl = free_test 32 (codes "dropcontrol") refl
name_free name.Prepare = free_test 32 (codes "prepare") refl
name_free name.Vouch = free_test 32 (codes "vouch") refl
name_free name.Decide = free_test 32 (codes "decide") refl
name_free name.Seal = free_test 32 (codes "seal") refl
name_free name.Finish = free_test 32 (codes "finish") refl
name_free name.Reply = free_test 32 (codes "reply") refl
name_free name.Trim = free_test 32 (codes "trim") refl

pub name_in_line : (k : Name) → LacksByte 10 (name_text k)
name_in_line name.Submit = free_test 10 (codes "submit") refl
name_in_line name.Pass = free_test 10 (codes "pass") refl
name_in_line name.Form = free_test 10 (codes "form") refl
name_in_line name.Admit = free_test 10 (codes "admit") refl
name_in_line name.Arrive = free_test 10 (codes "arrive") refl
name_in_line name.Ask = free_test 10 (codes "ask") refl
name_in_line name.Take = free_test 10 (codes "take") refl
name_in_line name.Run = free_test 10 (codes "run") refl
name_in_line name.Send = free_test 10 (codes "send") refl
name_in_line name.End = free_test 10 (codes "end") refl
name_in_line name.Close = free_test 10 (codes "close") refl
name_in_line name.Complete = free_test 10 (codes "complete") refl
name_in_line name.Sync = free_test 10 (codes "sync") refl
name_in_line name.Note = free_test 10 (codes "note") refl
name_in_line name.Commit = free_test 10 (codes "commit") refl
name_in_line name.Settle = free_test 10 (codes "settle") refl
name_in_line name.AbortBatch = free_test 10 (codes "abort") refl
name_in_line name.Rollback = free_test 10 (codes "rollback") refl
name_in_line name.DropSub = free_test 10 (codes "dropsub") refl
name_in_line name.DropControl = free_test 10 (codes "dropcontrol") refl
name_in_line name.Prepare = free_test 10 (codes "prepare") refl
name_in_line name.Vouch = free_test 10 (codes "vouch") refl
name_in_line name.Decide = free_test 10 (codes "decide") refl
name_in_line name.Seal = free_test 10 (codes "seal") refl
name_in_line name.Finish = free_test 10 (codes "finish") refl
name_in_line name.Reply = free_test 10 (codes "reply") refl
name_in_line name.Trim = free_test 10 (codes "trim") refl

pub first_small : (k : Name) (n : ℕ) → n < first_limit k → n < 2 ^ 64
first_small name.Submit n h = omega (arith, h)
first_small name.Pass n h = omega (arith, h)
first_small name.Form n h = omega (arith, h)
first_small name.Admit n h = omega (arith, h)
first_small name.Arrive n h = omega (arith, h)
first_small name.Ask n h = omega (arith, h)
first_small name.Take n h = omega (arith, h)
first_small name.Run n h = omega (arith, h)
first_small name.Send n h = omega (arith, h)
first_small name.End n h = omega (arith, h)
first_small name.Close n h = omega (arith, h)
first_small name.Complete n h = omega (arith, h)
first_small name.Sync n h = omega (arith, h)
first_small name.Note n h = omega (arith, h)
first_small name.Commit n h = omega (arith, h)
first_small name.Settle n h = omega (arith, h)
first_small name.AbortBatch n h = omega (arith, h)
first_small name.Rollback n h = omega (arith, h)
first_small name.DropSub n h = omega (arith, h)
first_small name.DropControl n h = omega (arith, h)
first_small name.Prepare n h = omega (arith, h)
first_small name.Vouch n h = omega (arith, h)
first_small name.Decide n h = omega (arith, h)
first_small name.Seal n h = omega (arith, h)
first_small name.Finish n h = omega (arith, h)
first_small name.Reply n h = omega (arith, h)
first_small name.Trim n h = omega (arith, h)

-- ---- each name is in the list

abbrev pub every_name : List Name
every_name = name.Submit ∷ name.Pass ∷ name.Form ∷ name.Admit ∷ name.Arrive ∷ name.Ask ∷ name.Take ∷ name.Run ∷ name.Send ∷ name.End ∷ name.Close ∷ name.Complete ∷ name.Sync ∷ name.Note ∷ name.Commit ∷ name.Settle ∷ name.AbortBatch ∷ name.Rollback ∷ name.DropSub ∷ name.DropControl ∷ name.Prepare ∷ name.Vouch ∷ name.Decide ∷ name.Seal ∷ name.Finish ∷ name.Reply ∷ name.Trim ∷ []

pub covers : (P : Name → Type 0) → ((k : ℕ) → k < 27 → P (get_or every_name k name.Submit)) → (n : Name) → P n
covers P h name.Submit = h 0 (omega arith)
covers P h name.Pass = h 1 (omega arith)
covers P h name.Form = h 2 (omega arith)
covers P h name.Admit = h 3 (omega arith)
covers P h name.Arrive = h 4 (omega arith)
covers P h name.Ask = h 5 (omega arith)
covers P h name.Take = h 6 (omega arith)
covers P h name.Run = h 7 (omega arith)
covers P h name.Send = h 8 (omega arith)
covers P h name.End = h 9 (omega arith)
covers P h name.Close = h 10 (omega arith)
covers P h name.Complete = h 11 (omega arith)
covers P h name.Sync = h 12 (omega arith)
covers P h name.Note = h 13 (omega arith)
covers P h name.Commit = h 14 (omega arith)
covers P h name.Settle = h 15 (omega arith)
covers P h name.AbortBatch = h 16 (omega arith)
covers P h name.Rollback = h 17 (omega arith)
covers P h name.DropSub = h 18 (omega arith)
covers P h name.DropControl = h 19 (omega arith)
covers P h name.Prepare = h 20 (omega arith)
covers P h name.Vouch = h 21 (omega arith)
covers P h name.Decide = h 22 (omega arith)
covers P h name.Seal = h 23 (omega arith)
covers P h name.Finish = h 24 (omega arith)
covers P h name.Reply = h 25 (omega arith)
covers P h name.Trim = h 26 (omega arith)
