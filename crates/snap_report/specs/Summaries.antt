-- The summary of a run: one line of compact JSON, byte for byte.
use Rattle.std.specs.Prelude.{List, ℕ, ◌++◌, codes}
use Rattle.std.specs.Fmt.{decimal, signed_decimal}
use Rattle.serde_json.specs.Data.{Data, unsigned, number, string, object, member, no_members}
use Rattle.snap_report.specs.Lines.{line_end}
use Rattle.snap_report.specs.declared.summaries.Summary.{Summary}

-- the object, its keys in the order of the alphabet and the sum as a string
abbrev pub summary_object : Summary → List ℕ
summary_object s =
    codes "{\"aborted\":" ++ (decimal s.aborted ++ (codes ",\"batches\":" ++ (decimal s.batches ++ (codes ",\"committed\":" ++ (decimal s.committed
    ++ (codes ",\"events\":" ++ (decimal s.events ++ (codes ",\"total\":\"" ++ (signed_decimal s.total
    ++ (codes "\",\"transactions\":" ++ (decimal s.transactions ++ codes "}")))))))))))

-- the line of a summary
abbrev pub summary_text : Summary → List ℕ
summary_text s = summary_object s ++ line_end

-- ---- only private contracts cite this

-- the object as data
abbrev pub summary_data : Summary → Data
summary_data s =
    object (member (codes "aborted") (number (unsigned s.aborted)) (member (codes "batches") (number (unsigned s.batches))
    (member (codes "committed") (number (unsigned s.committed)) (member (codes "events") (number (unsigned s.events))
    (member (codes "total") (string (signed_decimal s.total)) (member (codes "transactions") (number (unsigned s.transactions)) no_members))))))
