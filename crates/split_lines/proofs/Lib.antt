mod Energy
