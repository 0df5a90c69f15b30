mod SharedTables
