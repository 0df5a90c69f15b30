-- What the book at hand lists.
use Rattle.std.proofs.Common.{◌≡◌, ◌++◌, Option, Some, Result, Ok, Err, OnOk, List, map, sym, ap, ◌∙◌}
use Rattle.listing_facts.specs.book_part.Halves.{Halves, Shows}
use Rattle.core_events.specs.Meant.{event_meant}
use Rattle.core_events.specs.declared.events.Event as code
use Rattle.protocol.specs.Parts.{Book}
use Rattle.ready_listing.specs.Listed.{Adds, of_some, on_book}

pub book_listed : {E : Type 0} (o : Option Halves) (x : Halves) → o ≡ Some x → (r : Result (Unit {0}) E) (old new : List code.Event)
    → OnOk r ((b : Book) → Shows x b → Adds old new (on_book b))
    → OnOk r ((b : Book) → ((y : Halves) → o ≡ Some y → Shows y b) → Adds old new (of_some {X = Halves} (λ y. on_book b) o))
book_listed o x is (Err e) old new told = tt
book_listed o x is (Ok u) old new told = λ b shows. told b (shows x is) ∙ ap (λ p. map event_meant old ++ of_some {X = Halves} (λ y. on_book b) p) (sym is)
