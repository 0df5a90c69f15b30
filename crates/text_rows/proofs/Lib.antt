mod FirstOf
