mod SlotWays
