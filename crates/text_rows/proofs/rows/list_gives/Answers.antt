use Rattle.text_rows.proofs.rows.list_gives.Goals as goal

pub run_list-requires : goal.run_list-requires
run_list-requires c = rw (c.in_ok-world.ensures.items, c.as_slice.ensures, c.as_slice-2.ensures) c.requires.transactions
