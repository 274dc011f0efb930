mod Drawing
