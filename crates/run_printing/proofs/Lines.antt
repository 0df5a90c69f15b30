-- The lines of events, piece by piece.
use Rattle.std.proofs.Common.{◌≡◌, ℕ, ◌+◌, List, ◌++◌, take, drop, sym, ap, ◌∙◌}
use Rattle.std.proofs.Math.Seq.{take-add}
use Rattle.std.proofs.lemmas.List.{take-append-drop}
use Rattle.std.proofs.lemmas.Grind.{flat_map-append}
use Rattle.core_events.specs.declared.events.Event.{Event}
use Rattle.trace_text.specs.Traces.{trace_of}

pub trace-append : (xs ys : List Event) → trace_of (xs ++ ys) ≡ trace_of xs ++ trace_of ys
trace-append xs ys = flat_map-append _ xs ys

-- n more of them
pub trace_more : (es : List Event) (at n : ℕ) → trace_of (take (at + n) es) ≡ trace_of (take at es) ++ trace_of (take n (drop at es))
trace_more es at n = ap trace_of (take-add at n es) ∙ trace-append (take at es) (take n (drop at es))

-- those before a place, n of them from there on, and those behind these
pub events_cut : (es : List Event) (at n : ℕ) → es ≡ take at es ++ (take n (drop at es) ++ drop n (drop at es))
events_cut es at n = sym (take-append-drop at es) ∙ ap (λ l. take at es ++ l) (sym (take-append-drop n (drop at es)))
